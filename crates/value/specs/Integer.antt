-- Whole numbers: what document 01 says of arithmetic, apart from any machine. Assumes nothing: these are definitions, and they compute.
use Rattle.std.specs.Prelude.{Bool, false, ◌&&◌, cond, ℕ, suc, ◌+◌, ◌*◌, ◌-◌, ◌/◌, ◌%◌, ltb, eqb, ℤ, pos, negsuc, neg_ℤ, ◌-ℤ◌}
use Rattle.std.specs.Int.Signed.{le_z}

-- "within -2^31 to 2^31-1": the ends of 32 bits, and those of 16
abbrev pub low32 : ℤ
low32 = negsuc 2147483647

abbrev pub high32 : ℤ
high32 = pos 2147483647

abbrev pub low16 : ℤ
low16 = negsuc 32767

abbrev pub high16 : ℤ
high16 = pos 32767

abbrev pub in32 : ℤ → Bool
in32 z = le_z low32 z && le_z z high32

abbrev pub in16 : ℤ → Bool
in16 z = le_z low16 z && le_z z high16

-- the number itself where the width holds it, else 0
abbrev pub narrow32 : ℤ → ℤ
narrow32 z = cond (in32 z) z (pos 0)

abbrev pub narrow16 : ℤ → ℤ
narrow16 z = cond (in16 z) z (pos 0)

-- whether two whole numbers are equal
abbrev pub equal_z : ℤ → ℤ → Bool
equal_z (pos a) (pos b) = eqb a b
equal_z (pos a) (negsuc b) = false
equal_z (negsuc a) (pos b) = false
equal_z (negsuc a) (negsuc b) = eqb a b

-- the lesser and the greater of two
unfoldable pub min_z : ℤ → ℤ → ℤ
min_z a b = cond (le_z a b) a b

unfoldable pub max_z : ℤ → ℤ → ℤ
max_z a b = cond (le_z a b) b a

-- "the hull of the end results": the least and the greatest of f at the ends of l to h and of l' to h'
abbrev pub least_end : (ℤ → ℤ → ℤ) → ℤ → ℤ → ℤ → ℤ → ℤ
least_end f l h l' h' = min_z (min_z (f l l') (f l h')) (min_z (f h l') (f h h'))

abbrev pub greatest_end : (ℤ → ℤ → ℤ) → ℤ → ℤ → ℤ → ℤ → ℤ
greatest_end f l h l' h' = max_z (max_z (f l l') (f l h')) (max_z (f h l') (f h h'))

-- token 05: "the nearest multiple of m, halves away from zero". A number q × m + r, with r below m, lies between q × m and
-- (q + 1) × m: how many steps it goes up. From the half on that is one, whatever q is
unfoldable pub steps_up : ℕ → ℕ → ℕ → ℕ
steps_up m q r = cond (ltb (2 * r) m) 0 1

abbrev pub nearest : ℕ → ℕ → ℕ
nearest m n = (n / m + steps_up m (n / m) (n % m)) * m

-- the same below zero, so that halves go away from zero there too
unfoldable pub round_z : ℕ → ℤ → ℤ
round_z m (pos n) = pos (nearest m n)
round_z m (negsuc n) = neg_ℤ (pos (nearest m (suc n)))

-- "Sixteen-bit fields are high byte first; a value, lo, hi or constant is two's complement": the number of 16 bits, and that of two bytes
unfoldable pub signed_of : ℕ → ℤ
signed_of n = cond (ltb n 32768) (pos n) (pos n -ℤ pos 65536)

abbrev pub bytes_z : ℕ → ℕ → ℤ
bytes_z high low = signed_of (high * 256 + low)

-- back: the 16 bits of a number, and its two bytes
unfoldable pub bits_of : ℤ → ℕ
bits_of (pos n) = n
bits_of (negsuc n) = 65536 - suc n

abbrev pub high_byte : ℤ → ℕ
high_byte z = bits_of z / 256

abbrev pub low_byte : ℤ → ℕ
low_byte z = bits_of z % 256
