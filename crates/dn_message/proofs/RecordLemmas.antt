-- A record stands at a place once.
use Rattle.std.proofs.Common.{◌≡◌, ℕ, ◌+◌, ◌-◌, ◌<◌, ◌≤◌, List, ◌++◌, length, take, drop, refl, sym, ap, ap₂, subst, ◌∙◌, arith, length-take-le, length-drop, take-append-drop}
use Rattle.dn_name.specs.Name.{Labels}
use Rattle.dn_name.specs.Spelled.{Spelled}
use Rattle.dn_rdata.specs.Laid.{Laid, Stands}
use Rattle.dn_rdata.specs.declared.parts.Part.{Part}
use Rattle.dn_message.specs.declared.record.RecordHead.{RecordHead}
use Rattle.dn_message.specs.Reading.{IsHead, PassesOne, head_of}
use Rattle.dn_message.specs.Record.{Form, IsRr, any_data, fields}
use Rattle.dn_message.specs.declared.rr.Rr.{Rr}
use Rattle.dn_message.proofs.FieldLemmas.{any_laid, any_stands, four_once, same_front, stands, two_once}
use Rattle.dn_message.proofs.WithinLemmas.{data_within}

-- what two runs of fields say where they stand at the front of one list
pub record SameFields (left right : RecordHead) : Type 0 where
  pub rtype : left.rtype ≡ right.rtype
  pub rclass : left.rclass ≡ right.rclass
  pub ttl : left.ttl ≡ right.ttl
  pub len : left.len ≡ right.len

pub fields_once : (left right : RecordHead) (x y : List ℕ) → fields left.rtype left.rclass left.ttl left.len ++ x ≡ fields right.rtype right.rclass right.ttl right.len ++ y
    → SameFields left right
fields_once left right x y e =
    record {
      rtype = two_once left.rtype right.rtype (cc) (cc);
      rclass = two_once left.rclass right.rclass (cc) (cc);
      ttl = four_once left.ttl right.ttl (cc) (cc) (cc) (cc);
      len = two_once left.len right.len (cc) (cc);
    }

pub same_head : (left right : RecordHead) → left.name ≡ right.name → SameFields left right → left ≡ right
same_head left right n f i = record { name = n i; rtype = f.rtype i; rclass = f.rclass i; ttl = f.ttl i; len = f.len i }

-- ---- what stands before the data

module _ (message : List ℕ) (at behind : ℕ) (name : Labels) (spelled : Spelled message at name behind)
    (only : (found : Labels × ℕ) → Spelled message at found.0 found.1 → found ≡ (name, behind)) where
  -- any head at the place has this name, and its fields stand behind it
  moved : (other : RecordHead) (next : ℕ) (is : IsHead message at other next) → Stands message behind (fields other.rtype other.rclass other.ttl other.len) (behind + 10)
  moved other next is =
      subst (λ k. Stands message k (fields other.rtype other.rclass other.ttl other.len) (k + 10))
      (ap (λ (p : Labels × ℕ). p.1) (only (other.name, is.behind) is.name_spelled)) is.fields_stand

  pub head_found : (head : RecordHead) (back : List ℕ) → head.name ≡ name → drop behind message ≡ fields head.rtype head.rclass head.ttl head.len ++ back
      → IsHead message at head (behind + 10) × ((other : RecordHead × ℕ) → IsHead message at other.0 other.1 → other ≡ (head, behind + 10))
  head_found head back n e = (
    record {
      behind = behind;
      name_spelled = subst (λ xs. Spelled message at xs behind) (sym n) spelled;
      fields_stand = stands message behind (behind + 10) (fields head.rtype head.rclass head.ttl head.len) back e refl;
      place_is = refl;
    },
    λ other is.
        let same : (other.0.name, is.behind) ≡ (name, behind) = only (other.0.name, is.behind) is.name_spelled in
        let both = fields_once other.0 head (drop (behind + 10) message) back (sym (moved other.0 other.1 is).bytes ∙ e) in
        ap₂ (λ (x : RecordHead) (y : ℕ). (x, y)) (same_head other.0 head (ap (λ (p : Labels × ℕ). p.0) same ∙ sym n) both)
        (is.place_is ∙ ap (λ (p : Labels × ℕ). p.1 + 10) same),
  )

  pub no_fields : length (drop behind message) < 10 → (other : RecordHead × ℕ) → IsHead message at other.0 other.1 → ⊥
  no_fields short other is = omega (arith, ap length (moved other.0 other.1 is).bytes)

-- ---- the whole record

-- a record begins with its head
pub head_in : (form : Form) (message : List ℕ) (at : ℕ) (row : Rr) (next : ℕ) (is : IsRr form message at row next) → IsHead message at (head_of row is.len) (is.behind + 10)
head_in form message at row next is = record { behind = is.behind; name_spelled = is.name_spelled; fields_stand = is.fields_stand; place_is = refl }

pub no_head : (form : Form) (message : List ℕ) (at : ℕ) → ((other : RecordHead × ℕ) → IsHead message at other.0 other.1 → ⊥) → (other : Rr × ℕ) → IsRr form message at other.0 other.1 → ⊥
no_head form message at none other is = none (head_of other.0 is.len, is.behind + 10) (head_in form message at other.0 other.1 is)

module _ (form : Form) (message : List ℕ) (at : ℕ) (head : RecordHead) (place : ℕ) (is_head : IsHead message at head place)
    (only : (other : RecordHead × ℕ) → IsHead message at other.0 other.1 → other ≡ (head, place)) where
  -- any record at the place has this head, and its data lie behind it
  pub record Begins (row : Rr) (next : ℕ) : Type 0 where
    pub len : ℕ
    pub head_is : head_of row len ≡ head
    pub data_laid : Laid message place next (form row.rtype row.rclass) row.rdata
    pub next_is : next ≡ place + head.len

  pub begins : (row : Rr) (next : ℕ) → IsRr form message at row next → Begins row next
  begins row next is =
      let same : (head_of row is.len, is.behind + 10) ≡ (head, place) = only (head_of row is.len, is.behind + 10) (head_in form message at row next is) in
      let same_len : is.len ≡ head.len = ap (λ (p : RecordHead × ℕ). p.0.len) same in
      let there : is.behind + 10 ≡ place = ap (λ (p : RecordHead × ℕ). p.1) same in
      record {
        len = is.len;
        head_is = ap (λ (p : RecordHead × ℕ). p.0) same;
        data_laid = subst (λ k. Laid message k next (form row.rtype row.rclass) row.rdata) there is.data_laid;
        next_is = omega (arith, is.next_is, same_len, there);
      }

  -- the message ends before the data do
  pub cut_data : place ≤ length message → length message < place + head.len → (other : Rr × ℕ) → IsRr form message at other.0 other.1 → ⊥
  cut_data within short other is =
      let begun = begins other.0 other.1 is in
      omega (arith, data_within message (form other.0.rtype other.0.rclass) place other.1 other.0.rdata begun.data_laid within, begun.next_is)

  module _ (parts : List Part) (parts_are : parts ≡ form head.rtype head.rclass) (next : ℕ) (next_is : next ≡ place + head.len) where
    -- the data of any record at the place lie behind this head
    data_of_row : (row : Rr) (behind : ℕ) → IsRr form message at row behind → Laid message place next parts row.rdata
    data_of_row row behind is =
        let begun = begins row behind is in
        let laid = subst (λ (h : RecordHead). Laid message place behind (form h.rtype h.rclass) row.rdata) begun.head_is begun.data_laid in
        subst (λ ps. Laid message place next ps row.rdata) (sym parts_are)
        (subst (λ k. Laid message place k (form head.rtype head.rclass) row.rdata) (begun.next_is ∙ sym next_is) laid)

    pub no_data : ((other : List ℕ) → Laid message place next parts other → ⊥) → (other : Rr × ℕ) → IsRr form message at other.0 other.1 → ⊥
    no_data none other is = none other.0.rdata (data_of_row other.0 other.1 is)

    pub row_found : (rdata : List ℕ) → Laid message place next parts rdata → ((other : List ℕ) → Laid message place next parts other → other ≡ rdata)
        → IsRr form message at (record { name = head.name; rtype = head.rtype; rclass = head.rclass; ttl = head.ttl; rdata = rdata }) next
        × ((other : Rr × ℕ) → IsRr form message at other.0 other.1
        → other ≡ (record { name = head.name; rtype = head.rtype; rclass = head.rclass; ttl = head.ttl; rdata = rdata }, next))
    row_found rdata laid only_data = (
      record {
        behind = is_head.behind;
        len = head.len;
        name_spelled = is_head.name_spelled;
        fields_stand = is_head.fields_stand;
        data_laid = subst (λ ps. Laid message (is_head.behind + 10) next ps rdata) parts_are (subst (λ k. Laid message k next parts rdata) is_head.place_is laid);
        next_is = omega (arith, next_is, is_head.place_is);
      },
      λ other is.
          let begun = begins other.0 other.1 is in
          let h = begun.head_is in
          let d = only_data other.0.rdata (data_of_row other.0 other.1 is) in
          ap₂ (λ (x : Rr) (y : ℕ). (x, y)) (λ i. record { name = (h i).name; rtype = (h i).rtype; rclass = (h i).rclass; ttl = (h i).ttl; rdata = d i })
          (begun.next_is ∙ sym next_is),
    )

-- ---- a record whose data are any bytes

module _ (message : List ℕ) (at : ℕ) (head : RecordHead) (place : ℕ) (is_head : IsHead message at head place)
    (only : (other : RecordHead × ℕ) → IsHead message at other.0 other.1 → other ≡ (head, place)) where
  abbrev data_of : List ℕ
  data_of = take head.len (drop place message)

  abbrev row_of : Rr
  row_of = record { name = head.name; rtype = head.rtype; rclass = head.rclass; ttl = head.ttl; rdata = data_of }

  pub passes_one : (next : ℕ) → place ≤ length message → head.len ≤ length message - place → next ≡ place + head.len → PassesOne message at head next
  passes_one next within room next_is =
      let len_is : length data_of ≡ head.len = length-take-le head.len (drop place message) (omega (arith, length-drop place message)) in
      let standing : Stands message place data_of next =
      stands message place next data_of (drop head.len (drop place message)) (sym (take-append-drop head.len (drop place message))) (omega (arith, len_is, next_is)) in
      record {
        row = row_of;
        is = record {
          behind = is_head.behind;
          len = head.len;
          name_spelled = is_head.name_spelled;
          fields_stand = is_head.fields_stand;
          data_laid = subst (λ k. Laid message k next (any_data head.rtype head.rclass) data_of) is_head.place_is (any_laid message place next data_of standing);
          next_is = omega (arith, next_is, is_head.place_is);
        };
        head_is = refl;
        only = λ other is.
            let begun = begins any_data message at head place is_head only other.0 other.1 is in
            let lying = any_stands message place other.1 other.0.rdata begun.data_laid in
            let same_len : length other.0.rdata ≡ head.len = omega (arith, lying.next_is, begun.next_is) in
            let same_data : other.0.rdata ≡ data_of = same_front other.0.rdata data_of (drop other.1 message) (drop head.len (drop place message)) (same_len ∙ sym len_is)
            (sym lying.bytes ∙ sym (take-append-drop head.len (drop place message))) in
            ap₂ (λ (x : Rr) (y : ℕ). (x, y)) (same_row other.0 begun.len begun.head_is same_data) (omega (arith, begun.next_is, next_is));
      }
    where
      same_row : (other : Rr) (len : ℕ) → head_of other len ≡ head → other.rdata ≡ data_of → other ≡ row_of
      same_row other len h d i = record { name = (h i).name; rtype = (h i).rtype; rclass = (h i).rclass; ttl = (h i).ttl; rdata = d i }
