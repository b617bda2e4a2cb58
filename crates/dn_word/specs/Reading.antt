-- What reading a text tells: the value that is there, or that none is.
use Rattle.std.specs.Prelude.{◌≡◌, ℕ, List, ◌++◌, Option, None, Some, Result, Ok, Err, ⊤}
use Rattle.dn_word.specs.declared.error.TextError.{TextError}
use Rattle.dn_word.specs.declared.error.TextError.TheVariants as errors

-- Why nothing was read: there is nothing to be read, or memory ran out.
abbrev pub Misses : {X : Type 0} → TextError → Option X → Type 0
Misses errors.BadText there = there ≡ None
Misses errors.OutOfMemory there = ⊤

-- What reading gave is what is there to be read, unless memory ran out.
abbrev pub Reads : {X : Type 0} → Result X TextError → Option X → Type 0
Reads (Ok value) there = there ≡ Some value
Reads (Err why) there = Misses why there

-- What was read is put behind bytes, unless memory ran out.
abbrev pub Adds : Result Unit TextError → Option (List ℕ) → List ℕ → List ℕ → Type 0
Adds (Ok done) there old new = (piece : List ℕ) × (there ≡ Some piece) × (new ≡ old ++ piece)
Adds (Err why) there old new = Misses why there
