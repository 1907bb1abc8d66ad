-- What the bits of a double say of its value. Assumes nothing.
use Prim.Native.Nat.{ℕ, suc, ◌-◌, ◌%◌, ◌^◌, ◌<◌, ◌≤◌}
use mathlib.Core.Path.{◌≡◌, refl, sym, ◌∙◌, ap}
use mathlib.Core.Bool.{true, cond, not, ◌&&◌}
use lib.Ieee.{Float, nan, inf, fin, binary64, is_nan, of_bits, of_int, neg, le, nan_bits}
use lib.Ieee.Bits.{nan_bits_is, nan_bits_above}
use lib.Dec.{T, ltb}
use lib.IntN.{pos, negsuc}
use native.Mathlib.Omega.{arith}
use mir.Syntax.{w32}
use Rattle.std.specs.Int.{cast_signed}
use Rattle.std.specs.Float.{float_is_finite}
use borrow.Author.Tests.{lt-ltb, le-ltb}
use Rattle.property.specs.Layout.{finite, degrees, signed}

is_nan_lem : (x : Float) → is_nan x ≡ true → x ≡ nan
unfolding is_nan
is_nan_lem nan h = refl
is_nan_lem (inf s) h = cc
is_nan_lem (fin s m e) h = cc

-- above the pattern of an infinity, the sign left out, stand the NaNs
pub nan_above : (b : ℕ) → 0x7ff0_0000_0000_0000 < b % 0x8000_0000_0000_0000 → of_bits binary64 b ≡ nan
nan_above b h = is_nan_lem (of_bits binary64 b) (sym (nan_bits_is binary64 b) ∙ nan_bits_above binary64 b ∙ lt-ltb _ _ h)

-- up to it none does
pub nan_below : (b : ℕ) → b % 0x8000_0000_0000_0000 ≤ 0x7ff0_0000_0000_0000 → T (not (nan_bits binary64 b))
nan_below b h = rw (nan_bits_above binary64 b, le-ltb _ _ h) tt

-- what the library calls finite
pub finite_is : (x : Float) → float_is_finite x ≡ finite x
unfolding float_is_finite
finite_is nan = refl
finite_is (inf s) = refl
finite_is (fin s m e) = refl

-- each limit is one value, by its bits in the code and by its number in the definition
pub ninety : (x : Float) → (le (neg (of_bits binary64 0x4056_8000_0000_0000)) x && le x (of_bits binary64 0x4056_8000_0000_0000))
    ≡ degrees 90 x
unfolding of_bits of_int
ninety x = refl

pub one_eighty : (x : Float)
    → (le (neg (of_bits binary64 0x4066_8000_0000_0000)) x && le x (of_bits binary64 0x4066_8000_0000_0000)) ≡ degrees 180 x
unfolding of_bits of_int
one_eighty x = refl

-- 32 bits in two's complement
pub signed_cast : (n : ℕ) → cast_signed w32 n ≡ signed n
signed_cast n =
    let e : 2 ^ 32 - suc n ≡ 2 ^ 32 - 1 - n = omega arith in
    ap (λ (k : ℕ). cond (ltb n (2 ^ 31)) (pos n) (negsuc k)) e
