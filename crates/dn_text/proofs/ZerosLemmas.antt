-- The first of some zeros are zeros.
use Rattle.std.proofs.Common.{◌≡◌, ℕ, ◌≤◌, take, replicate}
use Rattle.std.proofs.lemmas.List.{take-replicate}

pub zeros_front : (count : ℕ) → count ≤ 16 → take {A = ℕ} count (replicate 16 0) ≡ replicate {A = ℕ} count 0
zeros_front count fits = take-replicate count 16 0 fits
