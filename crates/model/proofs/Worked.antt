-- Every worked example comes out.
use Rattle.std.proofs.Common.{refl}
use Rattle.model.specs.Examples.{AllComeOut, examples, all_three, shortest_two, read_twice, two_lists, loop_trail, loop_simple, loop_acyclic, loop_twice, grid_both, grid_one, grid_star, loop_plus, loop_empty, all_collected, each_letter, there_and_back}
use Rattle.model.proofs.RuleLaws.{restrictors}
use Rattle.model.proofs.Outcomes.{comes_out}

pub all_come_out : AllComeOut examples
all_come_out = (comes_out all_three restrictors.trail_keeps tt refl tt, (comes_out shortest_two restrictors.trail_keeps tt refl tt, (comes_out read_twice restrictors.trail_keeps tt refl tt, (comes_out two_lists restrictors.trail_keeps tt refl tt, (comes_out loop_trail restrictors.trail_keeps tt refl tt, (comes_out loop_simple restrictors.simple_keeps tt refl tt, (comes_out loop_acyclic restrictors.acyclic_keeps tt refl tt, (comes_out loop_twice restrictors.trail_keeps tt refl tt, (comes_out grid_both restrictors.simple_keeps tt refl tt, (comes_out grid_one restrictors.simple_keeps tt refl tt, (comes_out grid_star restrictors.trail_keeps tt refl tt, (comes_out loop_plus restrictors.trail_keeps tt refl tt, (comes_out loop_empty restrictors.trail_keeps tt refl tt, (comes_out all_collected restrictors.trail_keeps tt refl tt, (comes_out each_letter restrictors.trail_keeps tt refl tt, (comes_out there_and_back restrictors.trail_keeps tt refl tt, tt))))))))))))))))
