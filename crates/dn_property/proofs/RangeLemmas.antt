-- The property that bytes are is within the widths of its fields.
use Rattle.std.proofs.Common.{ℕ, ◌^◌, ◌<◌, List, [], ◌∷◌, ◌++◌, length, subst, arith}
use Rattle.dn_property.specs.Numbers.{four_little}
use Rattle.dn_property.specs.Ranges.{AreBytes, PropertiesAreInRange}
use Rattle.dn_property.specs.Stored.{head_bytes, head_of}

front_bytes : (front back : List ℕ) → AreBytes (front ++ back) → AreBytes front
front_bytes [] back are = tt
front_bytes (byte ∷ front) back are = (are.0, front_bytes front back are.1)

back_bytes : (front back : List ℕ) → AreBytes (front ++ back) → AreBytes back
back_bytes [] back are = are
back_bytes (byte ∷ front) back are = back_bytes front back are.1

four_fits : (number : ℕ) (rest : List ℕ) → AreBytes (four_little number ++ rest) → (number < 2 ^ 32) × AreBytes rest
four_fits number rest (a, (b, (c, (d, more)))) = (omega (arith, d), more)

pub in_range : PropertiesAreInRange
in_range bytes item are is =
    let kept : List ℕ = item.content ++ item.tail in
    let all : AreBytes (head_bytes (head_of item) ++ kept) = subst AreBytes is.layout are in
    let behind_version : List ℕ = four_little item.id ++ kept in
    let behind_flag : List ℕ = four_little 1 ++ behind_version in
    let behind_name : List ℕ = four_little item.flag ++ behind_flag in
    let len = four_fits (length item.content) (four_little item.name_length ++ behind_name) all in
    let name_length = four_fits item.name_length behind_name len.1 in
    let flag = four_fits item.flag behind_flag name_length.1 in
    let version = four_fits 1 behind_version flag.1 in
    let id = four_fits item.id kept version.1 in (
      record {
        name_length_fits = name_length.0;
        flag_fits = flag.0;
        id_fits = id.0;
        content_are_bytes = front_bytes item.content item.tail id.1;
        tail_are_bytes = back_bytes item.content item.tail id.1;
        tail_least = is.tail_least;
        tail_most = is.tail_most;
      },
      len.0,
    )
