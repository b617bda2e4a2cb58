-- Bytes as hex digits, two a byte (RFC 4648 8).
use Rattle.std.specs.Prelude.{ℕ, List, Option}
use Rattle.std.specs.Result.{result_ok}
use Rattle.hex.specs.Hex.{decode_of, encode_lower}

-- the bytes of an even number of hex digits of either case
unfoldable pub bytes_of_hex : List ℕ → Option (List ℕ)
bytes_of_hex word = result_ok (decode_of word)

-- the digits of bytes, in lower case
unfoldable pub hex_text : List ℕ → List ℕ
hex_text bytes = encode_lower bytes
