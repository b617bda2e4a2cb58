-- Lists of events in turn.
use Rattle.std.proofs.Common.{◌≡◌, List, [], ◌∷◌, ◌++◌, refl}
use Rattle.dn_world.specs.declared.event.WorldAnswer.{WorldAnswer}
use Rattle.dn_world.specs.declared.event.WorldEvent.{WorldEvent}
use Rattle.dn_world.specs.State.{WorldState}
use Rattle.dn_world.specs.Runs.{run_from}
use Rattle.dn_world.specs.World.{wstep}

-- one list behind another
pub run_then : (now : WorldState × WorldAnswer) (list others : List WorldEvent) → run_from now (list ++ others) ≡ run_from (run_from now list) others
run_then now [] others = refl
run_then now (event ∷ rest) others = run_then (wstep now.0 event) rest others

-- the answer before the first event makes no difference to the world
pub run_world : (world : WorldState) (one other : WorldAnswer) (list : List WorldEvent) → (run_from (world, one) list).0 ≡ (run_from (world, other) list).0
run_world world one other [] = refl
run_world world one other (event ∷ rest) = refl
