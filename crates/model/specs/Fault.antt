-- The numbers of the faults that a program finds, as docs/FORMAT.md has them.
use Rattle.std.specs.Prelude.{ℕ}
use Rattle.std.specs.declared.result.Result.{Result}
use Rattle.std.specs.declared.result.Result.TheVariants.{Ok, Err}
use Rattle.model.specs.declared.Fault.{Fault}
use Rattle.model.specs.declared.Fault.TheVariants.{Short, Version, Limits, Length, Code, KindFit, Extent, Class, Source, Rank, Buffer, Moments, Room, Instance, Run, AgentKind, Dependencies, Dependency, AgentRow, OperationFit, Rows}

abbrev pub fault_number : Fault → ℕ
fault_number Short = 1
fault_number Version = 2
fault_number Limits = 3
fault_number Length = 4
fault_number Code = 5
fault_number KindFit = 6
fault_number Extent = 7
fault_number Class = 8
fault_number Source = 9
fault_number Rank = 10
fault_number Buffer = 11
fault_number Moments = 12
fault_number Room = 13
fault_number Instance = 14
fault_number Run = 15
fault_number AgentKind = 16
fault_number Dependencies = 17
fault_number Dependency = 18
fault_number AgentRow = 19
fault_number OperationFit = 20
fault_number Rows = 40

-- the number of a fault that was looked for, 0 where there is none
abbrev pub number_of : Result Unit Fault → ℕ
number_of (Ok u) = 0
number_of (Err fault) = fault_number fault
