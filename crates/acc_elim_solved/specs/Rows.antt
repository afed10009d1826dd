-- Rows that were read stay when more relations come.
use Rattle.std.specs.Prelude.{◌≡◌, List, ◌++◌, length, Ok}
use Rattle.acc_base.specs.declared.forms.Rel.{Rel}
use Rattle.acc_base.specs.Computing.{chain}
use Rattle.acc_elim_readings.specs.Readings.{unknowns_of, rows_from}

-- the rows of more relations are the rows of the first ones, read with their own unknowns, and those of the others behind them
abbrev pub RowsStay : Type 0
RowsStay =
    (xs ys : List Rel) → rows_from (unknowns_of (xs ++ ys)) 0 (xs ++ ys)
    ≡ chain (rows_from (unknowns_of xs) 0 xs) (λ rows. chain (rows_from (unknowns_of (xs ++ ys)) (length xs) ys)
    (λ more. Ok (rows ++ more)))
