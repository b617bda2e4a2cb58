-- What a source and a sink do to the bytes that they have left and were given, and how their faults are counted.
use Rattle.std.specs.Prelude.{◌≡◌, ℕ, ◌+◌, ◌^◌, ◌<◌, ◌≤◌, if◌then◌else◌, min, List, ◌++◌, length, Option, None, Some, ⊤, IfOk, OnErr, Result, is_err}
use Rattle.std.specs.Io.KnownBytes.{Appends}

-- A count of faults has risen, or stands at its end, 2^63.
abbrev pub Rose : ℕ → ℕ → Type 0
Rose before now = min (before + 1) (2 ^ 63) ≤ now

-- the count behind a call: one more where the call failed, up to the count's end, and else as it was
abbrev pub faults_after : {T E : Type 0} → ℕ → Result T E → ℕ
faults_after before result = if is_err result then min (before + 1) (2 ^ 63) else before

-- Each failure is counted once and nothing else is; so the count doesn't fall, and a failure is told only where it has risen.
pub record HasCause {T E : Type 0} (before now : ℕ) (result : Result T E) : Type 0 where
  pub exact : now ≡ faults_after before result
  pub later : before ≤ now
  pub failed : OnErr result (Rose before now)

-- A write takes no more than it was given, and something of a piece that isn't empty.
abbrev pub TakesSome : {E : Type 0} → Result ℕ E → List ℕ → Type 0
TakesSome r bytes = IfOk r (λ k. (k ≤ length bytes) × (0 < length bytes → 0 < k))

-- Where bytes are told before, they are told after too, and the two are related so.
abbrev pub WhereTold : Option (List ℕ) → Option (List ℕ) → (List ℕ → List ℕ → Type 0) → Type 0
WhereTold None now P = ⊤
WhereTold (Some before) None P = ⊥
WhereTold (Some before) (Some now) P = P before now

-- Where bytes are told, they have grown by a front of these.
abbrev pub AppendsFront : Option (List ℕ) → Option (List ℕ) → List ℕ → Type 0
AppendsFront before now bytes = (front : List ℕ) × (back : List ℕ) × (bytes ≡ front ++ back) × Appends before now front
