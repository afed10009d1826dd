-- Numbers: what is spelled is read again, and what is read is what is spelled.
use Rattle.std.proofs.Common.{◌≡◌, ℕ, ℤ, ◌^◌, ◌<◌, ◌≤◌, Bool, true, false, cond, ltb, List, [], ◌∷◌, ◌++◌, length, take}
use Rattle.std.proofs.Common.{drop, Option, Some, None, FitsSigned, refl, sym, ap, subst, ◌∙◌, append_assoc, arith}
use Rattle.std.specs.Int.{Width, w32, w64, w128, byte_len, from_be_bytes, to_be_bytes, cast_signed, cast_unsigned}
use Rattle.std.proofs.lemmas.Bool.{le-ltb, ltb-false}
use Rattle.std.proofs.lemmas.List.{take_at, drop_at, length-append, take-append-drop, length-take}
use Rattle.std.proofs.lemmas.Int.{to_z-of_z, of_z-to_z}
use Rattle.std.proofs.lemmas.Nat.{from_be_bytes-to_be_bytes_4, from_be_bytes-to_be_bytes_8, be_bytes_4, be_bytes_8}
use Rattle.acc_ckpt.specs.Texts.{part_bytes, column_bytes}
use Rattle.acc_ckpt.specs.Reading.{◌>>=◌, number_at, byte_at, as_signed, part_at, column_at}
use Rattle.acc_ckpt.proofs.Bytes.{IsBytes, IsBytes-drop, IsBytes-take, IsBytes-rest}
use Rattle.acc_ckpt.proofs.Sixteen.{from_be_bytes-to_be_bytes_16, be_bytes_16}

-- the value of a step that answered
pub bind_some : {A B : Type 0} (r : Option A) (f : A → Option B) (y : B) → (r >>= f) ≡ Some y → (x : A) × (r ≡ Some x) × (f x ≡ Some y)
bind_some (Some x) f y e = (x, refl, e)
bind_some None f y e = absurd cc

guard_some : {A : Type 0} (b : Bool) (x y : A) → cond b None (Some x) ≡ Some y → (b ≡ false) × (x ≡ y)
guard_some true x y e = absurd cc
guard_some false x y e = (refl, cc)

abbrev just : {A : Type 0} → A → Option A
just x = Some x

pub some_is : {A : Type 0} (x y : A) → just x ≡ just y → x ≡ y
some_is x y e = cc

-- what a reader took from the front
pub record Takes (bytes text rest : List ℕ) : Type 0 where
  pub parts : bytes ≡ text ++ rest
  pub rest_fits : IsBytes rest

pub Takes-then : (a x b y c : List ℕ) → Takes a x b → Takes b y c → Takes a (x ++ y) c
Takes-then a x b y c p q = record {
  parts = p.parts ∙ ap (λ (t : List ℕ). x ++ t) q.parts ∙ sym (append_assoc x y c);
  rest_fits = q.rest_fits;
}

-- a width at which numbers are written and read
pub record IsWide (w : Width) (limit : ℕ) : Type 0 where
  pub len : (n : ℕ) → length (to_be_bytes w n) ≡ byte_len w
  pub again : (n : ℕ) → n < limit → from_be_bytes w (to_be_bytes w n) ≡ n
  pub back : (bytes : List ℕ) → length bytes ≡ byte_len w → IsBytes bytes → to_be_bytes w (from_be_bytes w bytes) ≡ bytes
  pub below : (bytes : List ℕ) → IsBytes bytes → from_be_bytes w bytes < limit

pub wide32 : IsWide w32 (2 ^ 32)
wide32 = record {
  len = λ n. refl;
  again = λ n lt. from_be_bytes-to_be_bytes_4 n lt;
  back = λ bytes len fits. be_bytes_4 bytes _ len fits refl;
  below = λ bytes fits. omega (arith, fits 0, fits 1, fits 2, fits 3);
}

pub wide64 : IsWide w64 (2 ^ 64)
wide64 = record {
  len = λ n. refl;
  again = λ n lt. from_be_bytes-to_be_bytes_8 n lt;
  back = λ bytes len fits. be_bytes_8 bytes _ len fits refl;
  below = λ bytes fits. omega (arith, fits 0, fits 1, fits 2, fits 3, fits 4, fits 5, fits 6, fits 7);
}

pub wide128 : IsWide w128 (2 ^ 128)
wide128 = record {
  len = λ n. refl;
  again = λ n lt. from_be_bytes-to_be_bytes_16 n lt;
  back = λ bytes len fits. be_bytes_16 bytes len fits;
  below = λ bytes fits. omega (
    arith,
    fits 0,
    fits 1,
    fits 2,
    fits 3,
    fits 4,
    fits 5,
    fits 6,
    fits 7,
    fits 8,
    fits 9,
    fits 10,
    fits 11,
    fits 12,
    fits 13,
    fits 14,
    fits 15,
  );
}

pub number_again : (w : Width) (limit : ℕ) (wide : IsWide w limit) (n : ℕ) (rest : List ℕ) → n < limit →
    number_at w (to_be_bytes w n ++ rest) ≡ Some (n, rest)
number_again w limit wide n rest lt =
    let len = wide.len n in
    let long : ltb (length (to_be_bytes w n ++ rest)) (byte_len w) ≡ false =
    le-ltb _ _ (omega (arith, length-append (to_be_bytes w n) rest)) in
    rw (long, take_at (to_be_bytes w n) rest (byte_len w) len, drop_at (to_be_bytes w n) rest (byte_len w) len, wide.again n lt) refl

pub number_takes : (w : Width) (limit : ℕ) (wide : IsWide w limit) (bytes : List ℕ) (n : ℕ) (rest : List ℕ) → IsBytes bytes →
    number_at w bytes ≡ Some (n, rest) → Takes bytes (to_be_bytes w n) rest × (n < limit)
number_takes w limit wide bytes n rest fits e =
    let g = guard_some (ltb (length bytes) (byte_len w)) (from_be_bytes w (take (byte_len w) bytes), drop (byte_len w) bytes) (n, rest) e in
    let long : byte_len w ≤ length bytes = ltb-false _ _ g.0 in
    let n-is : from_be_bytes w (take (byte_len w) bytes) ≡ n = ap (λ (p : ℕ × List ℕ). p.0) g.1 in
    let rest-is : drop (byte_len w) bytes ≡ rest = ap (λ (p : ℕ × List ℕ). p.1) g.1 in
    let front : to_be_bytes w n ≡ take (byte_len w) bytes =
    rw (← n-is) (wide.back (take (byte_len w) bytes) (omega (arith, length-take (byte_len w) bytes))
    (IsBytes-take (byte_len w) bytes fits)) in (
      record {
        parts = rw (front, ← rest-is) (sym (take-append-drop (byte_len w) bytes));
        rest_fits = rw (← rest-is) (IsBytes-drop (byte_len w) bytes fits);
      },
      rw (← n-is) (wide.below (take (byte_len w) bytes) (IsBytes-take (byte_len w) bytes fits)),
    )

pub byte_takes : (bytes : List ℕ) (b : ℕ) (rest : List ℕ) → IsBytes bytes → byte_at bytes ≡ Some (b, rest) → Takes bytes (b ∷ []) rest ×
    (b < 256)
byte_takes [] b rest fits e = absurd cc
byte_takes (x ∷ bytes) b rest fits e =
    subst (λ (p : ℕ × List ℕ). Takes (x ∷ bytes) (p.0 ∷ []) p.1 × (p.0 < 256)) (some_is (x, bytes) (b, rest) e)
    (record { parts = refl; rest_fits = IsBytes-rest x bytes fits }, fits 0)

-- what one reader does: it reads again what is spelled, and what it read is spelled
pub record Reads {A : Type 0} (one : List ℕ → Option (A × List ℕ)) (spell : A → List ℕ) (Fits : A → Type 0) : Type 0 where
  pub again : (x : A) (rest : List ℕ) → Fits x → one (spell x ++ rest) ≡ Some (x, rest)
  pub takes : (bytes : List ℕ) (x : A) (rest : List ℕ) → IsBytes bytes → one bytes ≡ Some (x, rest) → Takes bytes (spell x) rest × Fits x

pub reads_part : Reads part_at part_bytes (FitsSigned w64)
reads_part = record {
  again = λ z rest fits. ap (λ r. r >>= as_signed w64) (number_again w64 (2 ^ 64) wide64 (cast_unsigned w64 z) rest (small z fits))
      ∙ ap (λ y. Some (y, rest)) (to_z-of_z w64 z fits);
  takes = λ bytes z rest fits e.
      let a = bind_some (number_at w64 bytes) (as_signed w64) (z, rest) e in
      let t = number_takes w64 (2 ^ 64) wide64 bytes a.0.0 a.0.1 fits a.1 in
      let front : Takes bytes (part_bytes (cast_signed w64 a.0.0)) a.0.1 =
      subst (λ k. Takes bytes (to_be_bytes w64 k) a.0.1) (sym (of_z-to_z w64 a.0.0 t.1)) t.0 in
      subst (λ (p : ℤ × List ℕ). Takes bytes (part_bytes p.0) p.1 × FitsSigned w64 p.0) (some_is (cast_signed w64 a.0.0, a.0.1) (z, rest) a.2)
      (front, signed_fits a.0.0 t.1);
}
  where
    small : (z : ℤ) → FitsSigned w64 z → cast_unsigned w64 z < 2 ^ 64
    small z fits = grind arith

    signed_fits : (n : ℕ) → n < 2 ^ 64 → FitsSigned w64 (cast_signed w64 n)
    signed_fits n lt = grind arith

pub reads_column : Reads column_at column_bytes (FitsSigned w128)
reads_column = record {
  again = λ z rest fits. ap (λ r. r >>= as_signed w128) (number_again w128 (2 ^ 128) wide128 (cast_unsigned w128 z) rest (small z fits))
      ∙ ap (λ y. Some (y, rest)) (to_z-of_z w128 z fits);
  takes = λ bytes z rest fits e.
      let a = bind_some (number_at w128 bytes) (as_signed w128) (z, rest) e in
      let t = number_takes w128 (2 ^ 128) wide128 bytes a.0.0 a.0.1 fits a.1 in
      let front : Takes bytes (column_bytes (cast_signed w128 a.0.0)) a.0.1 =
      subst (λ k. Takes bytes (to_be_bytes w128 k) a.0.1) (sym (of_z-to_z w128 a.0.0 t.1)) t.0 in
      subst (λ (p : ℤ × List ℕ). Takes bytes (column_bytes p.0) p.1 × FitsSigned w128 p.0)
      (some_is (cast_signed w128 a.0.0, a.0.1) (z, rest) a.2) (front, signed_fits a.0.0 t.1);
}
  where
    small : (z : ℤ) → FitsSigned w128 z → cast_unsigned w128 z < 2 ^ 128
    small z fits = grind arith

    signed_fits : (n : ℕ) → n < 2 ^ 128 → FitsSigned w128 (cast_signed w128 n)
    signed_fits n lt = grind arith
