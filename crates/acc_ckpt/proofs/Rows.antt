-- One row: what is spelled is read again, and what is read is spelled.
use Rattle.std.proofs.Common.{◌≡◌, ℕ, ℤ, ◌^◌, List, [], ◌∷◌, ◌++◌, length, Some, FitsSigned, sym, ap, subst, ◌∙◌, append_assoc}
use Rattle.std.proofs.Common.{arith}
use Rattle.std.specs.List.{flat_map}
use Rattle.std.specs.Int.{w32, w64, w128, to_be_bytes}
use Rattle.acc_base.specs.declared.tables.Row.{Row}
use Rattle.acc_ckpt.specs.Texts.{part_bytes, column_bytes, row_bytes, RowFits}
use Rattle.acc_ckpt.specs.Reading.{◌>>=◌, number_at, byte_at, part_at, column_at, many_at, row_at}
use Rattle.acc_ckpt.proofs.Bytes.{IsBytes}
use Rattle.acc_ckpt.proofs.Numbers.{Takes, Takes-then, Reads, wide32, number_again, number_takes, byte_takes, bind_some, some_is}
use Rattle.acc_ckpt.proofs.Numbers.{reads_part, reads_column}
use Rattle.acc_ckpt.proofs.Many.{many_again, many_takes}

abbrev row_of : ℕ → List ℤ → List ℤ → Row
row_of table parts cols = record { table = table; key = record { parts = parts }; cols = cols }

row_again : (row : Row) (rest : List ℕ) → RowFits row → row_at (row_bytes row ++ rest) ≡ Some (row, rest)
unfolding row_at row_bytes
row_again row rest fits =
    let last = flat_map column_bytes row.cols ++ rest in
    let middle = flat_map part_bytes row.key.parts ++ length row.cols ∷ last in
    let regrouped : row_bytes row ++ rest ≡ to_be_bytes w32 row.table ++ length row.key.parts ∷ middle = simp append_assoc in
    ap row_at regrouped
    ∙ ap (λ r. r >>= λ table. byte_at table.1 >>= λ count. many_at part_at count.0 count.1 >>= λ parts. byte_at parts.1 >>= λ width. many_at
    column_at width.0 width.1 >>= λ cols. Some (row_of table.0 parts.0 cols.0, cols.1))
    (number_again w32 (2 ^ 32) wide32 row.table (length row.key.parts ∷ middle) fits.table)
    ∙ ap (λ r. r >>= λ parts. byte_at parts.1 >>= λ width. many_at column_at width.0 width.1 >>= λ cols. Some (
      row_of row.table parts.0 cols.0,
      cols.1,
    )) (many_again part_at part_bytes (FitsSigned w64) reads_part row.key.parts (length row.cols ∷ last) fits.each_part)
    ∙ ap (λ r. r >>= λ cols. Some (row_of row.table row.key.parts cols.0, cols.1))
    (many_again column_at column_bytes (FitsSigned w128) reads_column row.cols rest fits.each_column)

row_takes : (bytes : List ℕ) (row : Row) (rest : List ℕ) → IsBytes bytes → row_at bytes ≡ Some (row, rest) → Takes bytes (row_bytes row) rest
    × RowFits row
unfolding row_at row_bytes
row_takes bytes row rest fits e =
    let a = bind_some (number_at w32 bytes) (λ table. byte_at table.1 >>= λ count. many_at part_at count.0 count.1 >>= λ parts. byte_at
    parts.1 >>= λ width. many_at column_at width.0 width.1 >>= λ cols. Some (row_of table.0 parts.0 cols.0, cols.1)) (row, rest) e in
    let ta = number_takes w32 (2 ^ 32) wide32 bytes a.0.0 a.0.1 fits a.1 in
    let b = bind_some (byte_at a.0.1) (λ count. many_at part_at count.0 count.1 >>= λ parts. byte_at parts.1 >>= λ width. many_at column_at
    width.0 width.1 >>= λ cols. Some (row_of a.0.0 parts.0 cols.0, cols.1)) (row, rest) a.2 in
    let tb = byte_takes a.0.1 b.0.0 b.0.1 ta.0.rest_fits b.1 in
    let p = bind_some (many_at part_at b.0.0 b.0.1) (λ parts. byte_at parts.1 >>= λ width. many_at column_at width.0 width.1 >>=
    λ cols. Some (row_of a.0.0 parts.0 cols.0, cols.1)) (row, rest) b.2 in
    let tp = many_takes part_at part_bytes (FitsSigned w64) reads_part b.0.0 b.0.1 p.0 tb.0.rest_fits p.1 in
    let w = bind_some (byte_at p.0.1) (λ width. many_at column_at width.0 width.1 >>= λ cols. Some (row_of a.0.0 p.0.0 cols.0, cols.1))
    (row, rest) p.2 in
    let tw = byte_takes p.0.1 w.0.0 w.0.1 tp.takes.rest_fits w.1 in
    let q = bind_some (many_at column_at w.0.0 w.0.1) (λ cols. Some (row_of a.0.0 p.0.0 cols.0, cols.1)) (row, rest) w.2 in
    let tq = many_takes column_at column_bytes (FitsSigned w128) reads_column w.0.0 w.0.1 q.0 tw.0.rest_fits q.1 in
    let t1 = Takes-then bytes (to_be_bytes w32 a.0.0) a.0.1 (b.0.0 ∷ []) b.0.1 ta.0 tb.0 in
    let t2 = Takes-then bytes (to_be_bytes w32 a.0.0 ++ b.0.0 ∷ []) b.0.1 (flat_map part_bytes p.0.0) p.0.1 t1 tp.takes in
    let t3 = Takes-then bytes (to_be_bytes w32 a.0.0 ++ b.0.0 ∷ [] ++ flat_map part_bytes p.0.0) p.0.1 (w.0.0 ∷ []) w.0.1 t2 tw.0 in
    let t4 = Takes-then bytes (to_be_bytes w32 a.0.0 ++ b.0.0 ∷ [] ++ flat_map part_bytes p.0.0 ++ w.0.0 ∷ []) w.0.1
    (flat_map column_bytes q.0.0) q.0.1 t3 tq.takes in
    let counted =
    subst (λ n. Takes bytes (to_be_bytes w32 a.0.0 ++ n ∷ [] ++ flat_map part_bytes p.0.0 ++ w.0.0 ∷ [] ++ flat_map column_bytes q.0.0)
    q.0.1) (sym tp.count) t4 in
    let whole =
    subst (λ n. Takes bytes (to_be_bytes w32 a.0.0 ++ length p.0.0 ∷ [] ++ flat_map part_bytes p.0.0 ++ n ∷ [] ++ flat_map column_bytes
    q.0.0) q.0.1) (sym tq.count) counted in
    let joined =
    subst (λ l. Takes bytes l q.0.1) (append_assoc (to_be_bytes w32 a.0.0 ++ length p.0.0 ∷ [] ++ flat_map part_bytes p.0.0)
    (length q.0.0 ∷ []) (flat_map column_bytes q.0.0)) whole in
    subst (λ (y : Row × List ℕ). Takes bytes (row_bytes y.0) y.1 × RowFits y.0) (some_is (row_of a.0.0 p.0.0 q.0.0, q.0.1) (row, rest) q.2) (
      joined,
      record {
        table = ta.1;
        narrow = record { parts = omega (arith, tp.count, tb.1); cols = omega (arith, tq.count, tw.1) };
        each_part = tp.each;
        each_column = tq.each;
      },
    )

pub reads_row : Reads row_at row_bytes RowFits
reads_row = record { again = row_again; takes = row_takes }
