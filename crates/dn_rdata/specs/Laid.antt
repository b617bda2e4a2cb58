-- How the data of a type lie in a message, whose names may have pointers in them (RFC 1035 3.3 and 4.1.4): relations on
-- the whole message.
use Rattle.std.specs.Prelude.{◌≡◌, ℕ, ◌+◌, List, [], ◌∷◌, ◌++◌, length, drop}
use Rattle.dn_name.specs.Name.{Labels, wire_of}
use Rattle.dn_name.specs.Spelled.{Spelled}
use Rattle.dn_rdata.specs.Layout.{IsData, parts_of, text_bytes, texts_bytes}
use Rattle.dn_rdata.specs.declared.parts.Part.{Part}
use Rattle.dn_rdata.specs.declared.parts.Part.TheVariants.{Bytes, OneName, OneText, Texts, Rest}

-- the piece stands in the message from a place on, and `next` is the place behind it
pub record Stands (message : List ℕ) (at : ℕ) (piece : List ℕ) (next : ℕ) : Type 0 where
  pub bytes : drop at message ≡ piece ++ drop next message
  pub next_is : next ≡ at + length piece

-- One part of data that end at `end` lies in the message from a place on, and `next` is the place behind it. The piece is
-- its bytes, with its name written out.
abbrev pub Lies : List ℕ → ℕ → ℕ → Part → List ℕ → ℕ → Type 0
Lies message at end (Bytes count) piece next = (length piece ≡ count) × Stands message at piece next
Lies message at end OneName piece next = (name : Labels) × Spelled message at name next × (piece ≡ wire_of name)
Lies message at end OneText piece next = (text : List ℕ) × (piece ≡ text_bytes text) × Stands message at piece next
Lies message at end Texts piece next =
    (text : List ℕ) × (texts : List (List ℕ)) × (piece ≡ texts_bytes (text ∷ texts)) × Stands message at piece next × (next ≡ end)
Lies message at end Rest piece next = Stands message at piece next × (next ≡ end)

-- the parts lie one behind another up to the end, and these are their bytes
abbrev pub Laid : List ℕ → ℕ → ℕ → List Part → List ℕ → Type 0
Laid message at end [] rdata = (rdata ≡ []) × (at ≡ end)
Laid message at end (part ∷ parts) rdata =
    (piece back : List ℕ) × (next : ℕ) × Lies message at end part piece next × (rdata ≡ piece ++ back) × Laid message next end parts back

-- the data of a type lie in the message from a place up to another, and these are their bytes with each name written out
abbrev pub IsLaid : List ℕ → ℕ → ℕ → ℕ → List ℕ → Type 0
IsLaid message at end rtype rdata = Laid message at end (parts_of rtype) rdata

-- data in their wire form lie wherever their bytes stand, whatever stands before and behind them
abbrev pub WireIsLaid : Type 0
WireIsLaid = (message : List ℕ) (at rtype : ℕ) (rdata rest : List ℕ) → IsData rtype rdata → drop at message ≡ rdata ++ rest
    → IsLaid message at (at + length rdata) rtype rdata

-- data that lie in a message are in their wire form once each name is written out
abbrev pub LaidIsWire : Type 0
LaidIsWire = (message : List ℕ) (at end rtype : ℕ) (rdata : List ℕ) → IsLaid message at end rtype rdata → IsData rtype rdata

-- data lie in a message between two places once
abbrev pub IsLaidOnce : Type 0
IsLaidOnce = (message : List ℕ) (at end rtype : ℕ) (rdata other : List ℕ) → IsLaid message at end rtype rdata → IsLaid message at end rtype other → rdata ≡ other
