use Rattle.std.proofs.Common.{inl, inr, refl}
use Rattle.dn_name.specs.Name.{wire_of}
use Rattle.dn_rdata.proofs.check.fault_of_part.Goals as goal

pub fault_of_plain-requires-clause-none : goal.fault_of_plain-requires-clause-none
fault_of_plain-requires-clause-none c = λ name rest named stands.
    (rw c.in-OneName.is at c.requires.missing) rest (wire_of name, stands, (name, named, refl))

pub returns-in-Bytes : goal.returns-in-Bytes
returns-in-Bytes c =
    elim c.in-Bytes.is [
      | inl bytes ↦ rw bytes.1 (rw bytes.1 at c.requires.missing, refl)
      | inr other ↦
          elim other [
            | inl text ↦ rw text (rw text at c.requires.missing, refl)
            | inr more ↦
                elim more [
                  | inl texts ↦ rw texts (rw texts at c.requires.missing, refl)
                  | inr rest ↦ rw rest (rw rest at c.requires.missing, refl)
                ]
          ]
    ]
