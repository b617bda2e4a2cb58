-- Laws of how properties are stored.
use Rattle.std.specs.Prelude.{◌≡◌, ℕ, List}
use Rattle.dn_property.specs.declared.property.Property.{Property}
use Rattle.dn_property.specs.Stored.{IsProperty}

-- bytes are one property at most
abbrev pub IsSpelledOnce : Type 0
IsSpelledOnce = (bytes : List ℕ) (property other : Property) → IsProperty bytes property → IsProperty bytes other → property ≡ other

-- a property is stored in one way
abbrev pub HasOneSpelling : Type 0
HasOneSpelling = (property : Property) (bytes other : List ℕ) → IsProperty bytes property → IsProperty other property → bytes ≡ other
