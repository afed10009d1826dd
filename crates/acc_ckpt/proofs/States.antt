-- The text of rows is read back, and what is read has the text.
use Rattle.std.proofs.Common.{◌≡◌, ◌^◌, ℕ, true, false, List, [], ◌∷◌, ◌++◌, length, All, Some, None, ◌⊎◌, inl, inr, refl, sym, ap}
use Rattle.std.proofs.Common.{subst, ◌∙◌, arith}
use Rattle.std.specs.Prelude.{Result, Ok, Err}
use Rattle.std.specs.List.{flat_map}
use Rattle.std.specs.Int.{w32, to_be_bytes}
use Rattle.std.proofs.lemmas.List.{append-nil}
use Rattle.std.proofs.lemmas.List.Elements.{All-weaker}
use Rattle.acc_base.specs.declared.tables.Row.{Row}
use Rattle.acc_base.specs.declared.tables.Plain.{Plain}
use Rattle.acc_base.specs.Tables.{IsInOrder}
use Rattle.acc_ckpt.specs.Texts.{row_bytes, text_of, IsNarrow, IsCounted, RowFits, IsState}
use Rattle.acc_ckpt.specs.Reading.{◌>>=◌, number_at, many_at, row_at, rows_at, whole, in_order, ReadsText}
use Rattle.acc_ckpt.specs.declared.errors.CkptError.{CkptError}
use Rattle.acc_ckpt.specs.declared.errors.CkptError.TheVariants.{NotState, Memory}
use Rattle.acc_ckpt.proofs.Bytes.{IsBytes}
use Rattle.acc_ckpt.proofs.Numbers.{Takes-then, wide32, number_again, number_takes, bind_some, some_is}
use Rattle.acc_ckpt.proofs.Many.{many_again, many_takes}
use Rattle.acc_ckpt.proofs.Rows.{reads_row}
use Rattle.acc_ckpt.proofs.Orders.{ordered}

-- rows that are a state can be written
pub counted : (rows : List Row) → IsState rows → IsCounted rows
counted rows is = record { each = All-weaker RowFits IsNarrow (λ row fits. fits.narrow) rows is.each; few = is.few }

pub text_again : (rows : List Row) → IsState rows → rows_at (text_of rows) ≡ Some rows
unfolding rows_at text_of
text_again rows is =
    let all : many_at row_at (length rows) (flat_map row_bytes rows) ≡ Some (rows, []) =
    ap (many_at row_at (length rows)) (sym (append-nil (flat_map row_bytes rows))) ∙ many_again row_at row_bytes RowFits reads_row rows []
    is.each in
    ap (λ r. r >>= λ count. many_at row_at count.0 count.1 >>= whole)
    (number_again w32 (2 ^ 32) wide32 (length rows) (flat_map row_bytes rows) is.few)
    ∙ ap (λ r. r >>= whole) all

whole_is : (x : List Row × List ℕ) (rows : List Row) → whole x ≡ Some rows → (x.0 ≡ rows) × (x.1 ≡ [])
whole_is (xs, []) rows e = (some_is xs rows e, refl)
whole_is (xs, (b ∷ bytes)) rows e = absurd cc

-- what was read is spelled; only the order is still to be looked at
pub text_taken : (bytes : List ℕ) (rows : List Row) → IsBytes bytes → rows_at bytes ≡ Some rows → IsInOrder rows →
    IsState rows × (bytes ≡ text_of rows)
unfolding rows_at text_of
text_taken bytes rows fits e order =
    let a = bind_some (number_at w32 bytes) (λ count. many_at row_at count.0 count.1 >>= whole) rows e in
    let ta = number_takes w32 (2 ^ 32) wide32 bytes a.0.0 a.0.1 fits a.1 in
    let b = bind_some (many_at row_at a.0.0 a.0.1) whole rows a.2 in
    let tb = many_takes row_at row_bytes RowFits reads_row a.0.0 a.0.1 b.0 ta.0.rest_fits b.1 in
    let end = whole_is b.0 rows b.2 in
    let both = Takes-then bytes (to_be_bytes w32 a.0.0) a.0.1 (flat_map row_bytes b.0.0) b.0.1 ta.0 tb.takes in
    let count : a.0.0 ≡ length rows = sym tb.count ∙ ap length end.0 in
    let spelled : bytes ≡ to_be_bytes w32 a.0.0 ++ flat_map row_bytes b.0.0 =
    both.parts ∙ ap (λ (l : List ℕ). (to_be_bytes w32 a.0.0 ++ flat_map row_bytes b.0.0) ++ l) end.1
    ∙ append-nil (to_be_bytes w32 a.0.0 ++ flat_map row_bytes b.0.0) in (
      record { order = order; each = subst (All RowFits) end.0 tb.each; few = omega (arith, count, ta.1) },
      spelled ∙ ap (λ n. to_be_bytes w32 n ++ flat_map row_bytes b.0.0) count ∙ ap
          (λ (l : List Row). to_be_bytes w32 (length rows) ++ flat_map row_bytes l) end.0,
    )

pub one_state : (a b : List Row) → IsState a → IsState b → text_of a ≡ text_of b → a ≡ b
one_state a b p q same = some_is a b (sym (text_again a p) ∙ ap rows_at same ∙ text_again b q)

-- where no rows were read, or such as aren't in order, none have the text
pub none_read : (bytes : List ℕ) → rows_at bytes ≡ None → (rows : List Row) → IsState rows → bytes ≡ text_of rows → ⊥
none_read bytes none rows is same = let found = sym none ∙ ap rows_at same ∙ text_again rows is in absurd cc

pub not_ordered : (bytes : List ℕ) (found : List Row) → rows_at bytes ≡ Some found → in_order found ≡ false → (rows : List Row) →
    IsState rows → bytes ≡ text_of rows → ⊥
not_ordered bytes found e not rows is same =
    let these : found ≡ rows = some_is found rows (sym e ∙ ap rows_at same ∙ text_again rows is) in
    let clash : false ≡ true = sym not ∙ ap in_order these ∙ ordered rows is.order in absurd cc

abbrev ok_of : List Row → Result Plain CkptError
ok_of rows = Ok (record { rows = rows })

pub read_back : (p : Plain) (answer : Result Plain CkptError) → IsState p.rows → ReadsText (text_of p.rows) answer →
    (answer ≡ Ok p) ⊎ (answer ≡ Err Memory)
read_back p (Ok q) is reads =
    let same : q.rows ≡ p.rows = one_state q.rows p.rows reads.0 is (sym reads.1) in
    inl (ap (λ (rows : List Row). ok_of rows) same)
read_back p (Err NotState) is reads = absurd (reads p.rows is refl)
read_back p (Err Memory) is reads = inr refl
