-- All that a run computes with, under one name: to unfold `opened` is to unfold every definition on its line. A new definition is named here,
-- and no page of runs names any. Assumes nothing.
use Rattle.std.specs.Float.Ieee
use Rattle.finite.specs.Logic
use Rattle.finite.specs.Below
use Rattle.finite.specs.Closure
use Rattle.finite.specs.Lists
use Rattle.finite.specs.Walk
use Rattle.finite.specs.Count
use Rattle.model.specs.Row
use Rattle.model.specs.Header
use Rattle.model.specs.Table
use Rattle.model.specs.Scope
use Rattle.model.specs.Moment
use Rattle.model.specs.Synchronizes
use Rattle.model.specs.Happens
use Rattle.model.specs.Availability
use Rattle.model.specs.Location
use Rattle.model.specs.Race
use Rattle.model.specs.Edge
use Rattle.model.specs.RowFault
use Rattle.model.specs.TableFault
use Rattle.model.specs.Refusal
use Rattle.model.specs.Check
use Rattle.model.specs.Fill
use Rattle.model.specs.Reason
use Rattle.model.specs.Report

unfoldable pub opened : Unit {0}
unfolding
    Ieee.round
    Logic.◌and◌ Logic.◌or◌
    Below.any_below Below.all_below Below.least
    Closure.through
    Lists.tabulate
    Walk.walk Walk.on_cycle Walk.cycle_start Walk.cycle_size Walk.trail Walk.cycle Walk.along
    Count.one Count.count_below Count.under Count.count_pairs
    Row.plain Row.atomic Row.access Row.barrier Row.control Row.same_instance Row.operation Row.plain_read Row.rmw Row.reads Row.writes Row.ranked
    Row.acquires Row.releases Row.holds Row.meets Row.single Row.class_in Row.non_private Row.makes_available Row.makes_visible Row.inside Row.touches
    Row.covers Row.lowest_shared Row.is_shared Row.overlap
    Header.pair_at Header.quad_at Header.count_at Header.version_at Header.agents_at Header.rows_at Header.zero_at Header.has_hosts Header.shader_place_at
    Header.any_place_at
    Header.place_at Header.slot_at Header.places_of Table.mode_of Header.rows_begin Header.rows_end Header.size_of Header.row_bytes Header.dependency_bytes
    Table.byte_of Table.pair_of Table.row_of Table.source_of Table.atomic_source Table.dependency_count Table.dependency_end Table.dependency_from
    Table.dependency_to Table.dependency Table.depends_of Table.decode Table.table_under Table.table_of Table.sources_of
    Scope.agree Scope.agent_kind Scope.shader Scope.host Scope.one_instance Scope.shares Scope.together Scope.same_location Scope.mutual_rows
    Scope.mutually Scope.age Scope.later Scope.later_writer Scope.follows
    Moment.availability_of Moment.visibility_of Moment.moment_of Moment.moment_in Moment.program_ordered Moment.classes_of Moment.availability
    Moment.visibility Moment.moment Moment.same_agent Moment.program_order
    Synchronizes.continues Synchronizes.ends Synchronizes.sequence Synchronizes.takes_from Synchronizes.leads Synchronizes.trails
    Synchronizes.sync_atomics Synchronizes.carries_out Synchronizes.sync_from_barrier Synchronizes.carries_in Synchronizes.sync_to_barrier
    Synchronizes.carries_over Synchronizes.sync_barriers Synchronizes.up_to Synchronizes.joins Synchronizes.arrives Synchronizes.passes
    Synchronizes.sync_control Synchronizes.synchronizes
    Happens.holding_of Happens.concerns_of Happens.holding Happens.concerns Happens.by_sync Happens.to_release Happens.from_acquire Happens.by_system
    Happens.direct Happens.nth_case Happens.step Happens.inter_thread Happens.inter_thread_by Happens.happens
    Availability.same_reference Availability.covers_of Location.pure_read Availability.public_write Location.L1 Location.L2
    Availability.availability_moment Availability.visibility_moment
    Availability.first_available Availability.last_visible Availability.broader Availability.broadens Availability.narrows
    Availability.availability_chain
    Availability.visibility_chain Availability.available_by Availability.ends_availability Availability.visible_by Availability.begins_visibility
    Availability.in_domain Availability.meets_via
    Availability.meets_in Availability.available_via Availability.by_domain Availability.L3 Location.system_before Location.L4 Location.thence
    Location.on_host
    Location.available_kind Location.visible_kind Location.domain_kind Location.seen_by Location.met_from Location.carried_by Location.reaches_by
    Location.L5 Location.common Location.before
    Race.clash Race.conflict Race.unordered Race.unordered_nth Race.race_nth Race.races Race.races_above Race.race_partner Race.has_race Race.race_row
    Race.race_byte
    Edge.before_nth Edge.before_some Edge.reads_from Edge.from_reads Edge.edge_number Edge.edge Edge.cycle_row Edge.cycle_rows Edge.cycle_edges
    Edge.overwrites Edge.overwrites_nth Edge.over_nth Edge.overwriting Edge.over_writer Edge.is_overwritten Edge.over_reader Edge.over_byte Edge.consistent
    Refusal.buffers_fit Refusal.version_fits Refusal.limits_fit Refusal.length_fits Refusal.kind_over Refusal.agents_known Refusal.dependencies_few
    Refusal.names_missing Refusal.dependencies_named Refusal.hosts_fault Refusal.shape_or Refusal.header_fault RowFault.codes_fit RowFault.agent_fits
    RowFault.operation_fits
    RowFault.plain_fits RowFault.atomic_fits RowFault.barrier_fits RowFault.semantics_fit RowFault.bytes_fit RowFault.kind_fits RowFault.atomic_extent_fits
    RowFault.extent_fits
    RowFault.form_fault RowFault.row_fault TableFault.other_class TableFault.other_class_at TableFault.class_taken TableFault.writer_fits
    TableFault.source_fits
    TableFault.source_broken TableFault.same_rank TableFault.same_rank_at TableFault.rank_taken TableFault.apart TableFault.apart_at
    TableFault.instance_broken TableFault.rival
    TableFault.outside TableFault.outside_at TableFault.begins TableFault.unfit TableFault.table_fault Refusal.faulty Refusal.first_fault
    Refusal.row_fault_at
    Refusal.admission Refusal.when_admitted
    Check.race_or Check.overwritten_or Check.cyclic_or Check.verdict Check.check Check.check_answer
    Fill.not_before_at Fill.written_by Fill.written Fill.overwrites_between Fill.between Fill.candidate Fill.choice Fill.blank Fill.chosen Fill.sources_fit
    Fill.filled_or Fill.outcome Fill.fill
    Reason.judge Reason.judged Reason.two_moments Reason.accepts Reason.chain_holds Reason.stands Reason.broken Reason.step_holds
    Report.conflict_mutual Report.ordered_at Report.ordered_nth Report.conflict_ordered Report.conflicting Report.mutuals Report.ordered Report.racing
    Report.quotient Report.share_of Report.report_of Report.with_share Report.report_on Report.report_answer Report.report
opened = tt
