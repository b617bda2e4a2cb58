-- Two values under stamps: whether they agree, and which of them stays.
use Rattle.std.specs.Prelude.{◌≡◌, if◌then◌else◌}
use Rattle.std.specs.Ordering.{is_lt}
use Rattle.dn_stamp.specs.declared.join.Stamped.{Stamped}
use Rattle.dn_stamp.specs.Stamp.{stamp_order}

-- equal stamps mean equal values
abbrev pub Agree : {T : Type 0} → Stamped T → Stamped T → Type 0
Agree left right = left.stamp ≡ right.stamp → left.value ≡ right.value

-- the one with the greater stamp, the first where the stamps are equal
abbrev pub greater : {T : Type 0} → Stamped T → Stamped T → Stamped T
greater left right = if is_lt (stamp_order left.stamp right.stamp) then right else left
