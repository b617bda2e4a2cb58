-- How a name with pointers is read turn by turn: what the rest of a walk completes, and what a turn keeps of it.
use Rattle.std.specs.Prelude.{◌≡◌, ℕ, ◌+◌, ◌-◌, ◌≤◌, ◌<◌, List, ◌++◌, length, Option, None, Some, unwrap_or, Result, Ok, Err}
use Rattle.dn_name.specs.FirstFault.{FirstFault}
use Rattle.dn_name.specs.Name.{Labels, IsName, wire_len}
use Rattle.dn_name.specs.Spelled.{Segment}
use Rattle.dn_name.specs.declared.error.NameError.{NameError}
use Rattle.dn_name.specs.declared.pointers.Walk.{Walk}

-- the walk completes this name, and `next` is the place behind it
pub record Finishes (message : List ℕ) (walk : Walk) (name : Labels) (next : ℕ) : Type 0 where
  pub labels : Labels
  pub after : ℕ
  pub segment : Segment message walk.start walk.place labels after
  pub name_is : name ≡ walk.name ++ labels
  pub next_is : next ≡ unwrap_or walk.behind after

-- the walk completes no name
abbrev pub IsLost : List ℕ → Walk → Type 0
IsLost message walk = (name : Labels) (next : ℕ) → IsName name → Finishes message walk name next → ⊥

-- the place that a fault is given: that of the first pointer, which ends two bytes before the place behind the name
abbrev pub blamed : Option ℕ → ℕ → ℕ
blamed None place = place
blamed (Some next) place = next - 2

-- the walk meets this fault first
pub record Meets (message : List ℕ) (walk : Walk) (error : NameError) : Type 0 where
  pub place : ℕ
  pub fault : FirstFault message walk.start walk.place (wire_len walk.name) error.kind place
  pub place_is : error.place ≡ blamed walk.behind place

-- the walk stands in the message
pub record IsWithin (message : List ℕ) (walk : Walk) : Type 0 where
  pub start : walk.start ≤ length message
  pub place : walk.place ≤ length message

-- A bound on the turns that are left: a pointer leads before its segment's start, and a label takes bytes of the 255.
abbrev pub turns_left : Walk → ℕ
turns_left walk = walk.start + (255 - wire_len walk.name)

-- one turn on: the same names are completed, and the same faults met
pub record GoesOn (message : List ℕ) (old new : Walk) : Type 0 where
  pub goes : (name : Labels) (next : ℕ) → Finishes message new name next → Finishes message old name next
  pub only : (name : Labels) (next : ℕ) → Finishes message old name next → Finishes message new name next
  pub faults : (error : NameError) → Meets message new error → Meets message old error
  pub falls : turns_left new < turns_left old
  pub within : IsWithin message new
  pub named : IsName old.name → IsName new.name

-- a step of one turn: the walk goes on, or it completes no name and meets this fault
abbrev pub Steps : List ℕ → Walk → Walk → Result (Unit {0}) NameError → Type 0
Steps message old new (Ok done) = GoesOn message old new
Steps message old new (Err error) = IsLost message old × Meets message old error

-- one turn: the name ends and `next` is the place behind it, or as above
abbrev pub Turns : List ℕ → Walk → Walk → Result (Option ℕ) NameError → Type 0
Turns message old new (Ok (Some next)) = (new.name ≡ old.name) × Finishes message old old.name next
Turns message old new (Ok None) = GoesOn message old new
Turns message old new (Err error) = IsLost message old × Meets message old error
