-- Stamps of writes: the version, then the second, then the replica decides which is greater.
use Rattle.std.specs.Prelude.{ℕ, ◌+◌, ◌≤◌, Bool, not, nat_eq, nat_lt, if◌then◌else◌, Option, None, Some}
use Rattle.std.specs.Ordering.{is_gt, nat_cmp, ordering_then}
use Rattle.std.specs.declared.cmp.Ordering.{Ordering}
use Rattle.std.specs.Cmp.Lexicographic.{slice_cmp}
use lib.Pointwise.{pointwise}
use Rattle.dn_stamp.specs.declared.stamp.ReplicaId.{ReplicaId}
use Rattle.dn_stamp.specs.declared.stamp.Stamp.{Stamp}

-- the two are one replica
abbrev pub is_id : ReplicaId → ReplicaId → Bool
is_id left right = pointwise nat_eq left.0 right.0

-- stamps by version, then second, then replica
abbrev pub stamp_order : Stamp → Stamp → Ordering
stamp_order left right =
    ordering_then (nat_cmp left.version right.version)
    (ordering_then (nat_cmp left.seconds right.seconds) (slice_cmp nat_cmp left.id.0 right.id.0))

-- the one is greater than the other
abbrev pub is_newer : Stamp → Stamp → Bool
is_newer stamp other = is_gt (stamp_order stamp other)

-- the last version of a stamp
abbrev pub last_version : ℕ
last_version = 4294967294

-- the version of a stamp that was ever given
abbrev pub IsVersion : ℕ → Type 0
IsVersion version = (1 ≤ version) × (version ≤ last_version)

-- no stamp comes behind this one
abbrev pub is_last : Stamp → Bool
is_last stamp = not (nat_lt stamp.version last_version)

-- the stamp of a unit that is written for the first time
abbrev pub first_stamp : ReplicaId → ℕ → Stamp
first_stamp id seconds = record { version = 1; seconds = seconds; id = id }

-- the stamp of a write behind this one, whatever its version
abbrev pub stamp_after : Stamp → ReplicaId → ℕ → Stamp
stamp_after stamp id seconds = record { version = stamp.version + 1; seconds = seconds; id = id }

-- the stamp of the next write, with the version plus one; none at the last version
abbrev pub next_stamp : Stamp → ReplicaId → ℕ → Option Stamp
next_stamp stamp id seconds =
    if nat_lt stamp.version last_version then Some (stamp_after stamp id seconds) else None
