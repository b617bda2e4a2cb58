-- The steps of a whole pass, turn by turn.
use Rattle.std.proofs.Common.{◌≡◌, ℕ, zero, suc, ◌-◌, ◌+◌, ◌<◌, ◌≤◌, true, false, refl, sym, ap, arith, ◌∙◌}
use Rattle.dn_name.specs.Name.{Labels}
use Rattle.dn_world.specs.declared.event.WorldAnswer.{WorldAnswer}
use Rattle.dn_world.specs.State.{WorldState}
use Rattle.dn_script.specs.Passes.{is_moved, step_at, steps_from, while_moved}

more : (left : ℕ) (world : WorldState) (at : ℕ) (apex : Labels) → zero < left
    → steps_from left world at apex ≡ while_moved (step_at world at apex) (λ now. steps_from (left - 1) now at apex)
unfolding steps_from
more zero world at apex some = absurd (omega arith)
more (suc left) world at apex some =
    let e : left ≡ suc left - 1 = omega arith in
    ap (λ (rest : ℕ). while_moved (step_at world at apex) (λ now. steps_from rest now at apex)) e

-- an answer that isn't `moved` ends the pass
pub ends : (most turn : ℕ) (before after : WorldState) (at : ℕ) (apex : Labels) (answer : WorldAnswer) (whole : WorldState × WorldAnswer) → turn < most
    → step_at before at apex ≡ (after, answer) → false ≡ is_moved answer → steps_from (most - turn) before at apex ≡ whole → whole ≡ (after, answer)
ends most turn before after at apex answer whole less is over so_far =
    let some : zero < most - turn = omega arith in
    sym so_far ∙ more (most - turn) before at apex some ∙ (rw (is, ← over) refl)

-- and after another the rest ends it
pub goes_on : (most turn : ℕ) (before after : WorldState) (at : ℕ) (apex : Labels) (answer : WorldAnswer) (whole : WorldState × WorldAnswer) → turn < most
    → step_at before at apex ≡ (after, answer) → true ≡ is_moved answer → steps_from (most - turn) before at apex ≡ whole
    → steps_from (most - (turn + 1)) after at apex ≡ whole
goes_on most turn before after at apex answer whole less is moved so_far =
    let some : zero < most - turn = omega arith in
    let e : most - (turn + 1) ≡ most - turn - 1 = omega arith in
    rw e (sym (more (most - turn) before at apex some ∙ (rw (is, ← moved) refl)) ∙ so_far)

-- the last step ends it in any case
pub last : (most turn : ℕ) (before : WorldState) (at : ℕ) (apex : Labels) (whole : WorldState × WorldAnswer) → most ≤ turn
    → steps_from (most - turn) before at apex ≡ whole → whole ≡ step_at before at apex
unfolding steps_from
last most turn before at apex whole all so_far =
    let e : most - turn ≡ zero = omega arith in
    sym so_far ∙ ap (λ (left : ℕ). steps_from left before at apex) e
