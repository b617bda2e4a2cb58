-- What lies in a message ends inside it.
use Rattle.std.proofs.Common.{ℕ, ◌≤◌, List, [], ◌∷◌, length, drop, ap, arith, length-append, length-drop}
use Rattle.dn_name.specs.Name.{Labels}
use Rattle.dn_name.specs.Spelled.{Segment, Ends, Goes, Leads}
use Rattle.dn_rdata.specs.Laid.{Laid, Lies, Stands}
use Rattle.dn_rdata.specs.declared.parts.Part.{Part}
use Rattle.dn_rdata.specs.declared.parts.Part.TheVariants.{Bytes, OneName, OneText, Texts, Rest}

module _ (message : List ℕ) where
  name_within : {start at next : ℕ} {labels : Labels} → Segment message start at labels next → next ≤ length message
  name_within {start} {at} {next} {labels} (Ends rest is) = omega (arith, ap length is, length-drop at message)
  name_within (Goes label rest sized is more) = name_within more
  name_within {start} {at} {next} {labels} (Leads high low rest marked is below more) = omega (arith, ap length is, length-drop at message)

  piece_within : (at next : ℕ) (piece : List ℕ) → Stands message at piece next → at ≤ length message → next ≤ length message
  piece_within at next piece is within =
      omega (arith, is.next_is, ap length is.bytes, length-append piece (drop next message), length-drop at message, length-drop next message)

  part_within : (at end : ℕ) (part : Part) (piece : List ℕ) (next : ℕ) → Lies message at end part piece next → at ≤ length message → next ≤ length message
  part_within at end (Bytes count) piece next lies = piece_within at next piece lies.1
  part_within at end OneName piece next lies = λ _. name_within lies.1.1
  part_within at end OneText piece next lies = piece_within at next piece lies.2
  part_within at end Texts piece next lies = piece_within at next piece lies.3
  part_within at end Rest piece next lies = piece_within at next piece lies.0

  pub data_within : (parts : List Part) (at end : ℕ) (rdata : List ℕ) → Laid message at end parts rdata → at ≤ length message → end ≤ length message
  data_within [] at end rdata laid within = omega (arith, laid.1)
  data_within (part ∷ parts) at end rdata laid within = data_within parts laid.2 end laid.1 laid.5 (part_within at end part laid.0 laid.2 laid.3 within)
