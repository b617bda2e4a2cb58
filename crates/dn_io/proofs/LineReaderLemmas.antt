-- What a reader of lines gives, from what its steps do.
use Rattle.std.proofs.Common.{◌≡◌, ℕ, List, ◌++◌, Option, None, Some, Err, sym, ◌∙◌, append_assoc}
use Rattle.dn_io.specs.declared.line.LineError.{LineError}
use Rattle.dn_io.specs.declared.line.LineError.TheVariants.{ReadFault, TooLong, OutOfMemory}
use Rattle.dn_io.specs.Lines.{Held, ReadsLine}
use Rattle.dn_io.specs.Outside.{WhereTold}
use Rattle.dn_io.specs.Reading.{Fills, Takes}

-- a buffer that keeps no error
abbrev pub held_at : List ℕ → ℕ → Held
held_at bytes taken = record { bytes = bytes; taken = taken; kept = None }

joined : (old held before left : List ℕ) → Fills old held (Some before) (Some left) → old ++ before ≡ held ++ left
joined old held before left f = rw (f.grown, f.taken) (sym (append_assoc old f.read left))

-- an error that comes of what is held
pub reads-error : (old held new : List ℕ) (t t' now : ℕ) (error : LineError) (l0 l1 : Option (List ℕ)) → Fills old held l0 l1 → t' ≡ t → Takes held t' (Err error) new now → WhereTold l0 l1 (λ before left. ReadsLine (held_at old t) before (Err error) (held_at new now) left)
reads-error old held new t t' now error None l1 f same w = tt
reads-error old held new t t' now error (Some before) None f same w = absurd f.taken
reads-error old held new t t' now ReadFault (Some before) (Some left) f same w = absurd w
reads-error old held new t t' now OutOfMemory (Some before) (Some left) f same w =
    (f.read, w.0 ∙ f.grown, f.taken, w.1 ∙ same)
reads-error old held new t t' now TooLong (Some before) (Some left) f same w =
    let e = w left in
    (e.0, e.1, rw (joined old held before left f) e.2, rw (← same) e.3)
