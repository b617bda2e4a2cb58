-- What a new zone holds fits.
use Rattle.std.proofs.Common.{◌≡◌, List, refl, sym, subst}
use Rattle.std.specs.Prelude.{IsTrue}
use Rattle.dn_property.specs.declared.property.Property.{Property}
use Rattle.dn_store.specs.declared.unit.UnitValue.TheVariants.{Props}
use Rattle.dn_store.specs.Value.{fits}
use Rattle.dn_zone.specs.Creation.{first_properties}
use Rattle.dn_zone.specs.Settings.{property}

pub first_fit : IsTrue (fits (Props first_properties))
unfolding first_properties property
first_fit = refl

pub properties_fit : (list : List Property) → list ≡ first_properties → IsTrue (fits (Props list))
properties_fit list is = subst (λ (items : List Property). IsTrue (fits (Props items))) (sym is) first_fit
