-- What a view shows follows from the type and the bytes of the data.
use Rattle.std.proofs.Common.{◌≡◌, ℕ, ◌<◌, ◌^◌, Bool, true, false, List, [], ◌∷◌, ◌++◌, drop, Option, None, Some, cond, nat_eq, sym, ap, subst, ◌∙◌, arith}
use Rattle.std.proofs.lemmas.Bool.Decides.{nat_tests}
use Rattle.std.proofs.lemmas.Nat.{from_be_bytes-to_be_bytes_2}
use Rattle.std.specs.Prelude.{◌||◌}
use Rattle.std.specs.Int.{w16, from_be_bytes, to_be_bytes}
use Rattle.dn_name.specs.Name.{Labels, wire_of}
use Rattle.dn_name.specs.Wire.{plain_name}
use Rattle.dn_name.proofs.CallerLemmas.{plain_again}
use Rattle.dn_rdata.specs.Types.{SOA, MX, SRV}
use Rattle.dn_rdata.specs.Views.{IsView, IsWireName, Shown, is_address, is_one_name, is_parted, is_strings, shown}
use Rattle.dn_rdata.specs.declared.views.DataView.{DataView}
use Rattle.dn_rdata.specs.declared.views.DataView.TheVariants.{Address, OneName, Soa, Mx, Srv, Strings, Other}

abbrev whole : ℕ → List ℕ → Shown
whole kind rdata = record { kind = kind; numbers = []; lent = rdata ∷ [] }

-- the bytes of the name at the front, and those behind it
abbrev front_of : Option (Labels × List ℕ) → List ℕ
front_of None = []
front_of (Some found) = wire_of found.0

abbrev back_of : Option (Labels × List ℕ) → List ℕ
back_of None = []
back_of (Some found) = found.1

abbrev soa_lent : List ℕ → List (List ℕ)
soa_lent rdata =
    front_of (plain_name rdata) ∷ (front_of (plain_name (back_of (plain_name rdata))) ∷ (back_of (plain_name (back_of (plain_name rdata))) ∷ []))

abbrev soa_shows : List (List ℕ) → Shown
soa_shows lent = record { kind = 2; numbers = []; lent = lent }

abbrev mx_shows : ℕ → List ℕ → Shown
mx_shows preference exchange = record { kind = 3; numbers = preference ∷ []; lent = exchange ∷ [] }

abbrev srv_shows : ℕ → ℕ → ℕ → List ℕ → Shown
srv_shows priority weight port target = record { kind = 4; numbers = priority ∷ (weight ∷ (port ∷ [])); lent = target ∷ [] }

-- what a view of the data shows
abbrev seen : ℕ → List ℕ → Shown
seen rtype rdata =
    cond {A = Shown} (is_address rtype) (whole 0 rdata)
    (cond {A = Shown} (is_one_name rtype) (whole 1 rdata)
    (cond {A = Shown} (nat_eq rtype SOA) (soa_shows (soa_lent rdata))
    (cond {A = Shown} (nat_eq rtype MX) (mx_shows (from_be_bytes w16 rdata) (drop 2 rdata))
    (cond {A = Shown} (nat_eq rtype SRV) (srv_shows (from_be_bytes w16 rdata) (from_be_bytes w16 (drop 2 rdata)) (from_be_bytes w16 (drop 4 rdata)) (drop 6 rdata))
    (cond {A = Shown} (is_strings rtype) (whole 5 rdata) (whole 6 rdata))))))

front_is : (bytes rest : List ℕ) → IsWireName bytes → front_of (plain_name (bytes ++ rest)) ≡ bytes
front_is bytes rest named =
    ap (λ xs. front_of (plain_name (xs ++ rest))) named.2 ∙ ap front_of (plain_again named.0 rest named.1) ∙ sym named.2

back_is : (bytes rest : List ℕ) → IsWireName bytes → back_of (plain_name (bytes ++ rest)) ≡ rest
back_is bytes rest named = ap (λ xs. back_of (plain_name (xs ++ rest))) named.2 ∙ ap back_of (plain_again named.0 rest named.1)

-- what is chosen by a test
chosen : {b : Bool} {x z : Shown} → b ≡ true → (y : Shown) → z ≡ x → z ≡ cond {A = Shown} b x y
chosen {b} {x} {z} is y e = subst (λ (t : Bool). z ≡ cond {A = Shown} t x y) (sym is) e

passed : {b : Bool} {y z : Shown} → b ≡ false → (x : Shown) → z ≡ y → z ≡ cond {A = Shown} b x y
passed {b} {y} {z} is x e = subst (λ (t : Bool). z ≡ cond {A = Shown} t x y) (sym is) e

whole_is : (kind : ℕ) (rdata bytes : List ℕ) → rdata ≡ bytes → whole kind bytes ≡ whole kind rdata
whole_is kind rdata bytes e = ap (whole kind) (sym e)

soa_is : (primary mailbox numbers rdata : List ℕ) → rdata ≡ primary ++ (mailbox ++ numbers) → IsWireName primary → IsWireName mailbox
    → soa_shows (primary ∷ (mailbox ∷ (numbers ∷ []))) ≡ soa_shows (soa_lent rdata)
soa_is primary mailbox numbers rdata e named boxed =
    let rest = ap (λ xs. back_of (plain_name xs)) e ∙ back_is primary (mailbox ++ numbers) named in
    let front = ap (λ xs. front_of (plain_name xs)) e ∙ front_is primary (mailbox ++ numbers) named in
    let second = ap (λ xs. front_of (plain_name xs)) rest ∙ front_is mailbox numbers boxed in
    let last = ap (λ xs. back_of (plain_name xs)) rest ∙ back_is mailbox numbers boxed in
    λ i. soa_shows (sym front i ∷ (sym second i ∷ (sym last i ∷ [])))

-- the number that begins data
number_is : (number : ℕ) (rest bytes : List ℕ) → bytes ≡ to_be_bytes w16 number ++ rest → number < 2 ^ 16 → number ≡ from_be_bytes w16 bytes
number_is number rest bytes e short = sym (ap (from_be_bytes w16) e ∙ from_be_bytes-to_be_bytes_2 number short)

mx_is : (preference : ℕ) (exchange rdata : List ℕ) → rdata ≡ to_be_bytes w16 preference ++ exchange → preference < 2 ^ 16
    → mx_shows preference exchange ≡ mx_shows (from_be_bytes w16 rdata) (drop 2 rdata)
mx_is preference exchange rdata e short =
    let number = number_is preference exchange rdata e short in
    let rest : exchange ≡ drop 2 rdata = sym (ap (drop 2) e) in
    λ i. mx_shows (number i) (rest i)

srv_is : (priority weight port : ℕ) (target rdata : List ℕ) → rdata ≡ to_be_bytes w16 priority ++ (to_be_bytes w16 weight ++ (to_be_bytes w16 port ++ target))
    → priority < 2 ^ 16 → weight < 2 ^ 16 → port < 2 ^ 16
    → srv_shows priority weight port target ≡ srv_shows (from_be_bytes w16 rdata) (from_be_bytes w16 (drop 2 rdata)) (from_be_bytes w16 (drop 4 rdata)) (drop 6 rdata)
srv_is priority weight port target rdata e short also third =
    let first = number_is priority (to_be_bytes w16 weight ++ (to_be_bytes w16 port ++ target)) rdata e short in
    let second = number_is weight (to_be_bytes w16 port ++ target) (drop 2 rdata) (ap (drop 2) e) also in
    let last = number_is port target (drop 4 rdata) (ap (drop 4) e) third in
    let rest : target ≡ drop 6 rdata = sym (ap (drop 6) e) in
    λ i. srv_shows (first i) (second i) (last i) (rest i)

-- the tests of types, one after another
module _ (rtype : ℕ) where
  name_tests : is_one_name rtype ≡ true → is_address rtype ≡ false
  name_tests is = grind (arith, nat_tests)

  soa_tests : rtype ≡ SOA → (is_address rtype ≡ false) × (is_one_name rtype ≡ false) × (nat_eq rtype SOA ≡ true)
  soa_tests is = (ap is_address is, ap is_one_name is, ap (λ n. nat_eq n SOA) is)

  mx_tests : rtype ≡ MX → (is_address rtype ≡ false) × (is_one_name rtype ≡ false) × (nat_eq rtype SOA ≡ false) × (nat_eq rtype MX ≡ true)
  mx_tests is = (ap is_address is, ap is_one_name is, ap (λ n. nat_eq n SOA) is, ap (λ n. nat_eq n MX) is)

  srv_tests : rtype ≡ SRV
      → (is_address rtype ≡ false) × (is_one_name rtype ≡ false) × (nat_eq rtype SOA ≡ false) × (nat_eq rtype MX ≡ false) × (nat_eq rtype SRV ≡ true)
  srv_tests is = (ap is_address is, ap is_one_name is, ap (λ n. nat_eq n SOA) is, ap (λ n. nat_eq n MX) is, ap (λ n. nat_eq n SRV) is)

  string_tests : is_strings rtype ≡ true
      → (is_address rtype ≡ false) × (is_one_name rtype ≡ false) × (nat_eq rtype SOA ≡ false) × (nat_eq rtype MX ≡ false) × (nat_eq rtype SRV ≡ false)
  string_tests is = (grind (arith, nat_tests), grind (arith, nat_tests), grind (arith, nat_tests), grind (arith, nat_tests), grind (arith, nat_tests))

  other_tests : (is_address rtype || is_one_name rtype || is_strings rtype || is_parted rtype) ≡ false
      → (is_address rtype ≡ false) × (is_one_name rtype ≡ false) × (nat_eq rtype SOA ≡ false) × (nat_eq rtype MX ≡ false) × (nat_eq rtype SRV ≡ false) × (is_strings rtype ≡ false)
  other_tests is =
      (grind (arith, nat_tests), grind (arith, nat_tests), grind (arith, nat_tests), grind (arith, nat_tests), grind (arith, nat_tests), grind (arith, nat_tests))

pub view_is : (rtype : ℕ) (rdata : List ℕ) (view : DataView) → IsView rtype rdata view → shown view ≡ seen rtype rdata
view_is rtype rdata (Address bytes) is = chosen is.0 _ (whole_is 0 rdata bytes.now is.1)
view_is rtype rdata (OneName bytes) is = passed (name_tests rtype is.0) _ (chosen is.0 _ (whole_is 1 rdata bytes.now is.1))
view_is rtype rdata (Soa primary mailbox numbers) is =
    let tests = soa_tests rtype is.0 in
    passed tests.0 _ (passed tests.1 _ (chosen tests.2 _ (soa_is primary.now mailbox.now numbers.now rdata is.1 is.2 is.3)))
view_is rtype rdata (Mx preference exchange) is =
    let tests = mx_tests rtype is.0 in
    passed tests.0 _ (passed tests.1 _ (passed tests.2 _ (chosen tests.3 _ (mx_is preference exchange.now rdata is.1 is.2))))
view_is rtype rdata (Srv priority weight port target) is =
    let tests = srv_tests rtype is.0 in
    passed tests.0 _ (passed tests.1 _ (passed tests.2 _ (passed tests.3 _ (chosen tests.4 _ (srv_is priority weight port target.now rdata is.1 is.2 is.3 is.4)))))
view_is rtype rdata (Strings bytes) is =
    let tests = string_tests rtype is.0 in
    passed tests.0 _ (passed tests.1 _ (passed tests.2 _ (passed tests.3 _ (passed tests.4 _ (chosen is.0 _ (whole_is 5 rdata bytes.now is.1))))))
view_is rtype rdata (Other bytes) is =
    let tests = other_tests rtype is.0 in
    passed tests.0 _ (passed tests.1 _ (passed tests.2 _ (passed tests.3 _ (passed tests.4 _ (passed tests.5 _ (whole_is 6 rdata bytes.now is.1))))))
