-- Valid data: an SOA's with another primary server, and how many bytes data count for.
use Rattle.std.proofs.Common.{◌≡◌, ℕ, ◌+◌, ◌-◌, ◌≤◌, ◌&&◌, nat_lt, nat_eq, List, [], ◌∷◌, ◌++◌, length, take, drop, Some, refl, sym, ap, subst, ◌∙◌, arith, append_assoc, append-nil, length-append, length-drop, take_at}
use Rattle.std.proofs.lemmas.Bool.{cond_both, eqb-true}
use Rattle.std.specs.Cmp.{first_so}
use Rattle.std.specs.Int.{w32, to_be_bytes}
use Rattle.dn_name.specs.Name.{Labels, IsName, is_same, wire_len, wire_of}
use Rattle.dn_name.specs.Wire.{plain_name}
use Rattle.dn_name.proofs.CallerLemmas.{plain_again}
use Rattle.dn_rdata.specs.Layout.{IsData}
use Rattle.dn_store.specs.declared.owned.Owned.{Owned}
use Rattle.dn_answer.specs.Answer.{answered_data, soa_data, with_primary}
use Rattle.dn_answer.specs.Size.{behind_primary, data_size}

pub wire_size : (name : Labels) → length (wire_of name) ≡ wire_len name
wire_size [] = refl
wire_size (label ∷ name) = omega (arith, length-append label (wire_of name), wire_size name)

-- ---- the three parts of an SOA

record IsSoa (bytes : List ℕ) : Type 0 where
  primary : Labels
  mailbox : Labels
  numbers : List ℕ
  primary_is : IsName primary
  mailbox_is : IsName mailbox
  size : length numbers ≡ 20
  bytes_are : bytes ≡ wire_of primary ++ (wire_of mailbox ++ numbers)

soa_parts : (bytes : List ℕ) → IsData 6 bytes → IsSoa bytes
soa_parts bytes is =
    let numbers : is.2.0 ≡ is.2.2.1.0 = is.2.2.1.1 ∙ ap (λ xs. is.2.2.1.0 ++ xs) is.2.2.2 ∙ append-nil is.2.2.1.0 in
    let behind : is.0 ≡ wire_of is.2.1.2.0 ++ is.2.2.1.0 = is.2.1.1 ∙ ap (λ xs. xs ++ is.2.0) is.2.1.2.2 ∙ ap (λ xs. wire_of is.2.1.2.0 ++ xs) numbers in
    record {
      primary = is.1.2.0;
      mailbox = is.2.1.2.0;
      numbers = is.2.2.1.0;
      primary_is = is.1.2.1;
      mailbox_is = is.2.1.2.1;
      size = is.2.2.1.2;
      bytes_are = is.1.1 ∙ ap (λ xs. xs ++ is.0) is.1.2.2 ∙ ap (λ xs. wire_of is.1.2.0 ++ xs) behind;
    }

soa_again : (bytes : List ℕ) → IsSoa bytes → IsData 6 bytes
soa_again bytes is =
    let last : is.numbers ≡ is.numbers ++ [] = sym (append-nil is.numbers) in (
      wire_of is.mailbox ++ is.numbers,
      (wire_of is.primary, is.bytes_are, (is.primary, is.primary_is, refl)),
      (is.numbers, (wire_of is.mailbox, refl, (is.mailbox, is.mailbox_is, refl)), ([], (is.numbers, last, is.size), refl)),
    )

abbrev behind : (bytes : List ℕ) → IsSoa bytes → List ℕ
behind bytes is = wire_of is.mailbox ++ is.numbers

primary_there : (bytes : List ℕ) (is : IsSoa bytes) → plain_name bytes ≡ Some (is.primary, behind bytes is)
primary_there bytes is = ap plain_name is.bytes_are ∙ plain_again is.primary (behind bytes is) is.primary_is

-- ---- with another primary server

regrouped : (a b c d : List ℕ) → a ++ b ++ c ++ d ≡ a ++ (b ++ (c ++ d))
regrouped a b c d = append_assoc (a ++ b) c d ∙ append_assoc a b (c ++ d)

four_bytes : (serial : ℕ) → length (to_be_bytes w32 serial) ≡ 4
four_bytes serial = refl

module _ (host : Labels) (serial : ℕ) (is_host : IsName host) where
  with_host : (bytes : List ℕ) (is : IsSoa bytes)
      → IsSoa (wire_of host ++ take (length (behind bytes is) - 20) (behind bytes is) ++ to_be_bytes w32 serial ++ drop (length (behind bytes is) - 16) (behind bytes is))
  with_host bytes is =
      let rest : List ℕ = behind bytes is in
      let tail : List ℕ = drop (length rest - 16) rest in
      let long : length rest ≡ length (wire_of is.mailbox) + 20 = omega (arith, length-append (wire_of is.mailbox) is.numbers, is.size) in
      let short : length tail ≡ 16 = omega (arith, length-drop (length rest - 16) rest, long) in
      let front : take (length rest - 20) rest ≡ wire_of is.mailbox = take_at (wire_of is.mailbox) is.numbers (length rest - 20) (omega (arith, long)) in
      record {
        primary = host;
        mailbox = is.mailbox;
        numbers = to_be_bytes w32 serial ++ tail;
        primary_is = is_host;
        mailbox_is = is.mailbox_is;
        size = omega (arith, length-append (to_be_bytes w32 serial) tail, four_bytes serial, short);
        bytes_are = regrouped (wire_of host) (take (length rest - 20) rest) (to_be_bytes w32 serial) tail
            ∙ ap (λ xs. wire_of host ++ (xs ++ (to_be_bytes w32 serial ++ tail))) front;
      }

  soa_valid : (bytes : List ℕ) → IsData 6 bytes → IsData 6 (soa_data host serial bytes)
  unfolding soa_data
  soa_valid bytes valid =
      let is : IsSoa bytes = soa_parts bytes valid in
      let rest : List ℕ = behind bytes is in
      subst (λ found. IsData 6 (with_primary host serial bytes found)) (sym (primary_there bytes is))
      (cond_both (nat_lt (length rest) 20) bytes (wire_of host ++ take (length rest - 20) rest ++ to_be_bytes w32 serial ++ drop (length rest - 16) rest)
      (IsData 6) (λ short. valid) (λ long. soa_again (wire_of host ++ take (length rest - 20) rest ++ to_be_bytes w32 serial ++ drop (length rest - 16) rest) (with_host bytes is)))

  -- what is answered for a record of valid data has valid data
  pub answered_valid : (apex : Labels) (one : Owned) → IsData one.row.rtype one.row.rdata → IsData one.row.rtype (answered_data apex host serial one)
  answered_valid apex one valid =
      cond_both (nat_eq one.row.rtype 6 && is_same one.name apex) (soa_data host serial one.row.rdata) one.row.rdata (IsData one.row.rtype)
      (λ both.
      let soa : one.row.rtype ≡ 6 = eqb-true one.row.rtype 6 (first_so (nat_eq one.row.rtype 6) (is_same one.name apex) both) in
      subst (λ rtype. IsData rtype (soa_data host serial one.row.rdata)) (sym soa)
      (soa_valid one.row.rdata (subst (λ rtype. IsData rtype one.row.rdata) soa valid)))
      (λ other. valid)

-- ---- how many bytes data count for

soa_counts : (bytes : List ℕ) → IsSoa bytes → length bytes ≤ behind_primary bytes (plain_name bytes)
soa_counts bytes is =
    let all : length bytes ≡ length (wire_of is.primary) + length (behind bytes is) = ap length is.bytes_are ∙ length-append (wire_of is.primary) (behind bytes is) in
    subst (λ found. length bytes ≤ behind_primary bytes found) (sym (primary_there bytes is)) (omega (arith, all, wire_size is.primary, is.primary_is.1))

-- valid data have no more bytes than they count for
pub data_counts : (rtype : ℕ) (bytes : List ℕ) → IsData rtype bytes → length bytes ≤ data_size rtype bytes
data_counts rtype bytes valid =
    cond_both (nat_eq rtype 6) (behind_primary bytes (plain_name bytes)) (length bytes) (λ size. length bytes ≤ size)
    (λ soa. soa_counts bytes (soa_parts bytes (subst (λ kind. IsData kind bytes) (eqb-true rtype 6 soa) valid))) (λ other. omega arith)
