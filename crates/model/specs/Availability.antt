-- L3: location order by what a write makes available and a read makes visible, in single operations or, on a device with chains, in chains
-- of them.
use Rattle.std.specs.Prelude.{Bool, cond, ℕ, suc, ◌+◌, ◌*◌, ltb, leb, eqb}
use Rattle.finite.specs.Logic.{◌and◌, ◌or◌}
use Rattle.finite.specs.Below.{any_below}
use Rattle.finite.specs.Closure.{through}
use Rattle.model.specs.declared.Row.{Row}
use Rattle.model.specs.Row.{plain, reads, writes, non_private, class_in, touches}
use Rattle.model.specs.Table.{Table}
use Rattle.model.specs.Scope.{shares}
use Rattle.model.specs.Moment.{BEFORE, AFTER, row_in, itself, availability, visibility, program_order}
use Rattle.model.specs.Happens.{happens}

-- ---- of rows

unfoldable pub same_reference : Row → Row → Bool
same_reference r q = eqb r.reference q.reference

-- M1: a moment of q covers r's reference and byte b: q's own bytes and reference where it is plain, else all of its classes
unfoldable pub covers_of : Row → Row → ℕ → Bool
covers_of q r b = cond (plain q) (same_reference q r and touches q b) (class_in r q.classes)

-- r writes; both are non-private, of one reference
unfoldable pub public_write : Row → Row → Bool
public_write r q = writes r and non_private r and non_private q and same_reference r q

-- ---- L3 of single operations: the rules' own sentence, over moments. It is `L3` below where the device has no chains (law `single_elements`)

-- x's agent makes b available at the moment c, after x
unfoldable pub single_available : Table → ℕ → ℕ → ℕ → Bool
single_available t x b c = availability t c and program_order t (itself x) c and covers_of (t.row (row_in c)) (t.row x) b

-- y's agent makes b visible at the moment v, before y
unfoldable pub single_visible : Table → ℕ → ℕ → ℕ → Bool
single_visible t y b v = visibility t v and program_order t v (itself y) and covers_of (t.row (row_in v)) (t.row y) b

-- the agents of x and y share the scope of moment m
unfoldable pub share_moment : Table → ℕ → ℕ → ℕ → Bool
share_moment t x y m = shares t.places (t.row (row_in m)).scope (t.row x).agent (t.row y).agent

-- what was made available at c is made visible at v
unfoldable pub single_shown : Table → ℕ → ℕ → ℕ → ℕ → ℕ → Bool
single_shown t x y b c v = single_visible t y b v and share_moment t x y v and happens t c v

-- c comes before y: for a reader by way of a visibility moment, for any other at once
unfoldable pub single_met : Table → ℕ → ℕ → ℕ → ℕ → Bool
single_met t x y b c = cond (reads (t.row y)) (any_below (3 * t.rows) (single_shown t x y b c)) (happens t c (itself y))

-- c makes b available in a scope that both agents share, and y meets it
unfoldable pub single_carried : Table → ℕ → ℕ → ℕ → ℕ → Bool
single_carried t x y b c = single_available t x b c and share_moment t x y c and single_met t x y b c

unfoldable pub Single : Table → ℕ → ℕ → ℕ → Bool
Single t x y b = public_write (t.row x) (t.row y) and any_below (3 * t.rows) (single_carried t x y b)

-- ---- L3 with chains

-- scopes 1 to 4, subgroup to device, have memory domains
abbrev pub DOMAINS : ℕ
DOMAINS = 4

-- 003's chains of availability and of visibility operations. A row performs at most one of each, so an element is named by its row

-- the moment of row i's availability operation, and of its visibility operation, where it performs one
unfoldable pub availability_moment : Table → ℕ → ℕ
availability_moment t i = 3 * i + cond (plain (t.row i)) AFTER BEFORE

unfoldable pub visibility_moment : Table → ℕ → ℕ
visibility_moment t i = 3 * i + cond (plain (t.row i)) BEFORE AFTER

-- a is an availability operation of x's agent after x, and covers x's reference and b
unfoldable pub first_available : Table → ℕ → ℕ → ℕ → Bool
first_available t x b a =
    availability t (availability_moment t a) and program_order t (itself x) (availability_moment t a) and covers_of (t.row a) (t.row x) b

-- v is a visibility operation of y's agent before y, and covers y's reference and b
unfoldable pub last_visible : Table → ℕ → ℕ → ℕ → Bool
last_visible t y b v = visibility t (visibility_moment t v) and program_order t (visibility_moment t v) (itself y) and covers_of (t.row v) (t.row y) b

-- row j has a broader scope than row i, and is performed in the instance of row i's scope
unfoldable pub broader : Table → ℕ → ℕ → Bool
broader t i j = ltb (t.row i).scope (t.row j).scope and shares t.places (t.row i).scope (t.row i).agent (t.row j).agent

-- 003: in an availability chain c may come right after a
unfoldable pub broadens : Table → ℕ → ℕ → Bool
broadens t a c = availability t (availability_moment t c) and broader t a c and happens t (availability_moment t a) (availability_moment t c)

-- 003: in a visibility chain v may come right after w
unfoldable pub narrows : Table → ℕ → ℕ → Bool
narrows t w v = visibility t (visibility_moment t w) and broader t v w and happens t (visibility_moment t w) (visibility_moment t v)

-- the allowed chains, by their first and last elements: those of one element and, on a device with chains, of any number
unfoldable pub availability_chain : Table → ℕ → ℕ → Bool
availability_chain t a c = eqb a c or (t.chains and through (broadens t) t.rows a c)

unfoldable pub visibility_chain : Table → ℕ → ℕ → Bool
visibility_chain t w v = eqb w v or (t.chains and through (narrows t) t.rows w v)

-- an allowed availability chain of x at b begins with a and ends with c
unfoldable pub available_by : Table → ℕ → ℕ → ℕ → ℕ → Bool
available_by t x b c a = first_available t x b a and availability_chain t a c

-- c ends an allowed availability chain of x at b
unfoldable pub ends_availability : Table → ℕ → ℕ → ℕ → Bool
ends_availability t x b c = any_below t.rows (available_by t x b c)

-- an allowed visibility chain of y at b begins with w and ends with v
unfoldable pub visible_by : Table → ℕ → ℕ → ℕ → ℕ → Bool
visible_by t y b w v = last_visible t y b v and visibility_chain t w v

-- w begins an allowed visibility chain of y at b
unfoldable pub begins_visibility : Table → ℕ → ℕ → ℕ → Bool
begins_visibility t y b w = any_below t.rows (visible_by t y b w)

-- the domain of scope d that x's agent accesses is one of row i's operation: its scope's own, or a smaller one that holds its agent
unfoldable pub in_domain : Table → ℕ → ℕ → ℕ → Bool
in_domain t d x i = leb d (t.row i).scope and shares t.places d (t.row x).agent (t.row i).agent

-- what c makes available to the domain of scope d, w makes visible from it
unfoldable pub meets_via : Table → ℕ → ℕ → ℕ → ℕ → ℕ → Bool
meets_via t d y b c w = in_domain t d y w and happens t (availability_moment t c) (visibility_moment t w) and begins_visibility t y b w

-- y meets what c makes available to that domain: a reader by way of a visibility chain, any other at once
unfoldable pub meets_in : Table → ℕ → ℕ → ℕ → ℕ → Bool
meets_in t d y b c = cond (reads (t.row y)) (any_below t.rows (meets_via t d y b c)) (happens t (availability_moment t c) (itself y))

-- the agents of x and y access a common domain, of scope k + 1, c makes available to it, and y meets that
unfoldable pub by_domain : Table → ℕ → ℕ → ℕ → ℕ → ℕ → Bool
by_domain t x y b c k =
    shares t.places (suc k) (t.row x).agent (t.row y).agent and in_domain t (suc k) x c and meets_in t (suc k) y b c

-- what x wrote at b is made available by way of c, in a domain where y meets it
unfoldable pub available_via : Table → ℕ → ℕ → ℕ → ℕ → Bool
available_via t x y b c = ends_availability t x b c and any_below DOMAINS (by_domain t x y b c)

unfoldable pub L3 : Table → ℕ → ℕ → ℕ → Bool
L3 t x y b = public_write (t.row x) (t.row y) and any_below t.rows (available_via t x y b)
