-- Bytes are one property at most.
use Rattle.std.proofs.Common.{◌≡◌, ℕ, ◌/◌, ◌%◌, List, ◌++◌, length, refl, sym, ap, ◌∙◌, arith, take, take_at, drop, drop_at}
use Rattle.dn_property.specs.declared.property.Property.{Property}
use Rattle.dn_property.specs.declared.stored.Head.{Head}
use Rattle.dn_property.specs.Reading.{IsFound}
use Rattle.dn_property.specs.Reading.Parts.{IsSplit, joined}
use Rattle.dn_property.specs.Stored.{IsProperty, head_bytes, head_of}

-- two numbers with equal bytes are equal
four_once : (left right : ℕ) → left % 256 ≡ right % 256 → left / 256 % 256 ≡ right / 256 % 256 → left / 65536 % 256 ≡ right / 65536 % 256
    → left / 16777216 ≡ right / 16777216 → left ≡ right
four_once left right a b c d = omega arith

-- of two heads at the front of one list each number is the same, and so is what stands behind them
pub head_once : (left right : Head) (more rest : List ℕ) → head_bytes left ++ more ≡ head_bytes right ++ rest → (left ≡ right) × (more ≡ rest)
head_once left right more rest same =
    let data_length = four_once left.data_length right.data_length (cc) (cc) (cc) (cc) in
    let name_length = four_once left.name_length right.name_length (cc) (cc) (cc) (cc) in
    let flag = four_once left.flag right.flag (cc) (cc) (cc) (cc) in
    let version = four_once left.version right.version (cc) (cc) (cc) (cc) in
    let id = four_once left.id right.id (cc) (cc) (cc) (cc) in
    (λ i. record { data_length = data_length i; name_length = name_length i; flag = flag i; version = version i; id = id i }, cc)

-- two lists with fronts of one length have the same front, and the same behind it
same_front : (left right more rest : List ℕ) → length left ≡ length right → left ++ more ≡ right ++ rest → left ≡ right
same_front left right more rest count same = sym (take_at left more (length left) refl) ∙ ap (take (length left)) same ∙ take_at right rest (length left) (sym count)

same_back : (left right more rest : List ℕ) → length left ≡ length right → left ++ more ≡ right ++ rest → more ≡ rest
same_back left right more rest count same = sym (drop_at left more (length left) refl) ∙ ap (drop (length left)) same ∙ drop_at right rest (length left) (sym count)

pub property_once : (bytes : List ℕ) (property other : Property) → IsProperty bytes property → IsProperty bytes other → property ≡ other
property_once bytes property other is also =
    let heads = head_once (head_of property) (head_of other) (property.content ++ property.tail) (other.content ++ other.tail) (sym is.layout ∙ also.layout) in
    let count : length property.content ≡ length other.content = ap (λ (head : Head). head.data_length) heads.0 in
    let content = same_front property.content other.content property.tail other.tail count heads.1 in
    let tail = same_back property.content other.content property.tail other.tail count heads.1 in
    let name_length : property.name_length ≡ other.name_length = ap (λ (head : Head). head.name_length) heads.0 in
    let flag : property.flag ≡ other.flag = ap (λ (head : Head). head.flag) heads.0 in
    let id : property.id ≡ other.id = ap (λ (head : Head). head.id) heads.0 in
    λ i. record { name_length = name_length i; flag = flag i; id = id i; content = content i; tail = tail i }

-- bytes that are split are the property of their parts, and no other
pub property_found : (bytes : List ℕ) (head : Head) (content tail : List ℕ) → IsSplit bytes head content tail
    → IsFound bytes (joined head content tail)
property_found bytes head content tail split =
    let same : head ≡ head_of (joined head content tail) =
    λ i. record { data_length = split.len i; name_length = head.name_length; flag = head.flag; version = split.version i; id = head.id } in
    let found : IsProperty bytes (joined head content tail) =
    record { layout = split.bytes_are ∙ ap (λ (h : Head). head_bytes h ++ (content ++ tail)) same; tail_least = split.tail_least; tail_most = split.tail_most } in
    (found, λ other is. property_once bytes other (joined head content tail) is found)
