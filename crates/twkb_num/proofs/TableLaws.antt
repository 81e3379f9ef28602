-- The tables of places and lengths are right: computed at each of the 256 masks.
use Rattle.twkb_num.proofs.Prelude.{◌≡◌, ℕ, zero, suc, ◌+◌, ◌/◌, ◌%◌, ◌<◌, ◌^◌, Bool, true, false, ◌&&◌, ◌||◌, eqb, ltb, cond, refl, get_or, NARROW_PLACES, NARROW_LEN, THREE_NARROW_LEN, WIDE_PLACES, WIDE_LEN, FIRST_WIDE_LEN, byte_of}
use Rattle.twkb_num.proofs.Below.{true_below}

-- how many bytes the varint takes that begins at a bit of the mask, if at most n
abbrev pub length_at : ℕ → ℕ → ℕ → ℕ
length_at zero mask at = 0
length_at (suc n) mask at = cond (eqb (mask / 2 ^ at % 2) 0) 1 (suc (length_at n mask (suc at)))

-- n places from i on that take nothing
abbrev pub none_ok : ℕ → ℕ → ℕ → Bool
none_ok zero row i = true
none_ok (suc n) row i = ltb i 8 && (eqb (byte_of row i) 255 && none_ok n row (suc i))

-- n places from i on that take the bytes of the varint that begins at a bit of the mask, and then nothing
abbrev pub lane_ok : ℕ → ℕ → ℕ → ℕ → ℕ → Bool
lane_ok zero row i mask at = false
lane_ok (suc n) row i mask at = ltb i 8 && (ltb at 8 && (eqb (byte_of row i) at && cond (eqb (mask / 2 ^ at % 2) 0) (none_ok n row (suc i)) (lane_ok n row (suc i) mask (suc at))))

-- k lanes of n places each, from i on, that take k varints one after another, up to a bit of the mask
abbrev pub row_ok : ℕ → ℕ → ℕ → ℕ → ℕ → ℕ → ℕ → Bool
row_ok n zero row i mask at stop = eqb at stop
row_ok n (suc k) row i mask at stop = lane_ok n row i mask at && row_ok n k row (i + n) mask (at + length_at n mask at) stop

-- a length is one of at most eight, or 128
abbrev pub is_flag : ℕ → Bool
is_flag len = ltb len 9 || eqb len 128

pub wide_rows : (mask : ℕ) → mask < 256 → cond (ltb (get_or WIDE_LEN mask 0) 128) (row_ok 4 2 (get_or WIDE_PLACES mask 0) 0 mask 0 (get_or WIDE_LEN mask 0)) true ≡ true
wide_rows = true_below (λ mask. cond (ltb (get_or WIDE_LEN mask 0) 128) (row_ok 4 2 (get_or WIDE_PLACES mask 0) 0 mask 0 (get_or WIDE_LEN mask 0)) true) 256 refl

pub narrow_rows : (mask : ℕ) → mask < 256 → cond (ltb (get_or NARROW_LEN mask 0) 128) (row_ok 2 4 (get_or NARROW_PLACES mask 0) 0 mask 0 (get_or NARROW_LEN mask 0)) true ≡ true
narrow_rows = true_below (λ mask. cond (ltb (get_or NARROW_LEN mask 0) 128) (row_ok 2 4 (get_or NARROW_PLACES mask 0) 0 mask 0 (get_or NARROW_LEN mask 0)) true) 256 refl

pub wide_flags : (mask : ℕ) → mask < 256 → is_flag (get_or WIDE_LEN mask 0) ≡ true
wide_flags = true_below (λ mask. is_flag (get_or WIDE_LEN mask 0)) 256 refl

pub narrow_flags : (mask : ℕ) → mask < 256 → is_flag (get_or NARROW_LEN mask 0) ≡ true
narrow_flags = true_below (λ mask. is_flag (get_or NARROW_LEN mask 0)) 256 refl

pub first_wide_rows : (mask : ℕ) → mask < 256 → cond (ltb (get_or FIRST_WIDE_LEN mask 0) 128) (row_ok 4 1 (get_or WIDE_PLACES mask 0) 0 mask 0 (get_or FIRST_WIDE_LEN mask 0)) true ≡ true
first_wide_rows = true_below (λ mask. cond (ltb (get_or FIRST_WIDE_LEN mask 0) 128) (row_ok 4 1 (get_or WIDE_PLACES mask 0) 0 mask 0 (get_or FIRST_WIDE_LEN mask 0)) true) 256 refl

pub three_narrow_rows : (mask : ℕ) → mask < 256 → cond (ltb (get_or THREE_NARROW_LEN mask 0) 128) (row_ok 2 3 (get_or NARROW_PLACES mask 0) 0 mask 0 (get_or THREE_NARROW_LEN mask 0)) true ≡ true
three_narrow_rows = true_below (λ mask. cond (ltb (get_or THREE_NARROW_LEN mask 0) 128) (row_ok 2 3 (get_or NARROW_PLACES mask 0) 0 mask 0 (get_or THREE_NARROW_LEN mask 0)) true) 256 refl

pub first_wide_flags : (mask : ℕ) → mask < 256 → is_flag (get_or FIRST_WIDE_LEN mask 0) ≡ true
first_wide_flags = true_below (λ mask. is_flag (get_or FIRST_WIDE_LEN mask 0)) 256 refl

pub three_narrow_flags : (mask : ℕ) → mask < 256 → is_flag (get_or THREE_NARROW_LEN mask 0) ≡ true
three_narrow_flags = true_below (λ mask. is_flag (get_or THREE_NARROW_LEN mask 0)) 256 refl
