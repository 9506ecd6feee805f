-- A word and its four bytes.
use Rattle.std.proofs.Common.{◌≡◌, ℕ, zero, suc, ◌+◌, ◌*◌, ◌<◌, ◌≤◌, List, [], ◌∷◌, length, get_or, take, drop, sym, refl, add-zero, arith, w32}
use Rattle.std.specs.Int.{from_le_bytes}
use Rattle.std.specs.List.{flat_map}
use Rattle.std.proofs.lemmas.Grind.{common_steps}
use Rattle.std.proofs.lemmas.List.{get_or-take, get_or-drop, get_or_past}
use Rattle.std.proofs.lemmas.Nat.{le_bytes_4}
use Rattle.setfile.specs.Format.{word_bytes, word_at}

pub from_le_bytes-take : (bytes : List ℕ) (at : ℕ) → from_le_bytes w32 (take 4 (drop at bytes)) ≡ word_at bytes at
from_le_bytes-take bytes at = grind (arith, common_steps)

fits_part : (bytes : List ℕ) (at : ℕ) → get_or bytes at 0 < 256 → get_or bytes (at + 1) 0 < 256 → get_or bytes (at + 2) 0 < 256 → get_or bytes (at + 3) 0 < 256 → (i : ℕ) → get_or (take 4 (drop at bytes)) i 0 < 256
fits_part bytes at h₀ h₁ h₂ h₃ zero = rw (get_or-take 4 (drop at bytes) 0 0 (omega arith), get_or-drop, add-zero at) h₀
fits_part bytes at h₀ h₁ h₂ h₃ (suc zero) = rw (get_or-take 4 (drop at bytes) 1 0 (omega arith), get_or-drop) h₁
fits_part bytes at h₀ h₁ h₂ h₃ (suc (suc zero)) = rw (get_or-take 4 (drop at bytes) 2 0 (omega arith), get_or-drop) h₂
fits_part bytes at h₀ h₁ h₂ h₃ (suc (suc (suc zero))) = rw (get_or-take 4 (drop at bytes) 3 0 (omega arith), get_or-drop) h₃
fits_part bytes at h₀ h₁ h₂ h₃ (suc (suc (suc (suc i)))) = grind (arith, common_steps, get_or_past)

-- bytes that fit spell the word that they give
pub word_spelled : (bytes : List ℕ) (at : ℕ) → at + 4 ≤ length bytes → get_or bytes at 0 < 256 → get_or bytes (at + 1) 0 < 256 → get_or bytes (at + 2) 0 < 256 → get_or bytes (at + 3) 0 < 256 → word_bytes (word_at bytes at) ≡ take 4 (drop at bytes)
word_spelled bytes at h h₀ h₁ h₂ h₃ =
    le_bytes_4 (take 4 (drop at bytes)) (word_at bytes at) (grind (arith, common_steps)) (fits_part bytes at h₀ h₁ h₂ h₃) (sym (from_le_bytes-take bytes at))

pub length_joined : (ws : List ℕ) → length (flat_map word_bytes ws) ≡ 4 * length ws
length_joined [] = refl
length_joined (w ∷ ws) = omega (arith, length_joined ws)
