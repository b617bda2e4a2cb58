-- The names and identities of replicas as words.
use Rattle.std.specs.Prelude.{ℕ, Bool, ◌&&◌, ◌||◌, nat_eq, nat_le, List, length, Option, Some}
use Rattle.std.specs.List.{list_all}
use Rattle.std.specs.Result.{result_ok}
use Rattle.hex.specs.Hex.{decode_sized}
use Rattle.dn_io.specs.Options.{◌>>=◌}
use Rattle.dn_stamp.specs.declared.stamp.ReplicaId.{ReplicaId}
use Rattle.dn_word.specs.Numbers.{is_digit}

abbrev pub is_name_byte : ℕ → Bool
is_name_byte byte = is_digit byte || (nat_le 65 byte && nat_le byte 90) || (nat_le 97 byte && nat_le byte 122) || nat_eq byte 45 || nat_eq byte 95

-- the name of a replica: 1 to 32 letters, digits, `-` or `_`
unfoldable pub is_replica_name : List ℕ → Bool
is_replica_name word = nat_le 1 (length word) && nat_le (length word) 32 && list_all is_name_byte word

abbrev pub as_id : List ℕ → ReplicaId
as_id bytes = record { 0 = bytes }

-- an identity: 32 hex digits of either case
unfoldable pub id_of : List ℕ → Option ReplicaId
id_of word = do
  bytes ← result_ok (decode_sized word 16)
  Some (as_id bytes)
