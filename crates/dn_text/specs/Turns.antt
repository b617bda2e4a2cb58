-- What a turn in a text of strings did.
use Rattle.std.specs.Prelude.{◌≡◌, ℕ, List, ◌∷◌, Option, Some, Result, Ok, Err}
use Rattle.dn_word.specs.Reading.{Misses}
use Rattle.dn_text.specs.Strings.{strings_from, turned}
use Rattle.dn_word.specs.declared.error.TextError.{TextError}
use Rattle.dn_text.specs.declared.quoted.Place.{Place}
use Rattle.dn_text.specs.declared.quoted.Turn.{Turn}

-- what follows the turn follows at the next place, behind the strings and the bytes that it left; none follows an error
abbrev pub Turns : Result Place TextError → Turn → List ℕ → List ℕ → List ℕ → List ℕ → Type 0
Turns (Ok place) turn done begun closed string = (go_on : Place → List ℕ → List ℕ → Option (List ℕ)) → turned (Some turn) done begun go_on ≡ go_on place closed string
Turns (Err why) turn done begun closed string = (go_on : Place → List ℕ → List ℕ → Option (List ℕ)) → Misses why (turned (Some turn) done begun go_on)

-- what a text completes from a place on behind this byte, its rest completes from the next place on; nothing behind an error
abbrev pub Steps : Result Place TextError → Place → ℕ → List ℕ → List ℕ → List ℕ → List ℕ → Type 0
Steps (Ok next) place byte done begun closed string = (rest : List ℕ) → strings_from place done begun (byte ∷ rest) ≡ strings_from next closed string rest
Steps (Err why) place byte done begun closed string = (rest : List ℕ) → Misses why (strings_from place done begun (byte ∷ rest))
