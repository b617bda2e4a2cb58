-- How a name is written as text, label by label.
use Rattle.std.specs.Prelude.{◌≡◌, ℕ, ◌+◌, ◌*◌, ◌≤◌, List, ◌++◌, length, take, drop}
use Rattle.std.specs.List.{AllByRecursion}
use Rattle.dn_name.specs.Name.{Labels, IsLabel, wire_of}
use Rattle.dn_name.specs.Text.{dotted, text_of}

-- the bytes were written from one place of a buffer up to another, and what stands behind is as before
pub record Prints (at : ℕ) (old bytes : List ℕ) (after : ℕ) (new : List ℕ) : Type 0 where
  pub place : after ≡ at + length bytes
  pub front : take after new ≡ take at old ++ bytes
  pub back : drop after new ≡ drop after old

-- the text of the name was written at the buffer's front, but for these labels on the wire
pub record IsWritten (name : Labels) (wire : List ℕ) (at : ℕ) (old new : List ℕ) : Type 0 where
  pub left : Labels
  pub labels : AllByRecursion IsLabel left
  pub spelled : wire ≡ wire_of left
  pub done : List ℕ
  pub text : text_of name ≡ done ++ dotted left
  pub prints : Prints 0 old done at new
  pub room : at + 4 * length wire ≤ 1020
