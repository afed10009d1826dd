-- What the reads of a step assign.
use Rattle.std.specs.Prelude.{ℕ, ◌+◌, nat_lt, if◌then◌else◌, List, [], ◌∷◌, length, Option, Some, None, option_and_then, slice_set, ℤ, ◌*ℤ◌}
use Rattle.std.specs.List.{list_all}
use Rattle.std.specs.Int.{int_div_euclid}
use Rattle.acc_base.specs.declared.tables.Row.{Row}
use Rattle.acc_base.specs.declared.forms.Lin.{Lin}
use Rattle.acc_base.specs.declared.steps.Read.{Read}
use Rattle.acc_base.specs.declared.steps.Read.TheVariants.{Let, Col, Has, Count, Sum, Least, Greatest, Take, Mul, Div}
use Rattle.acc_base.specs.declared.machines.Frame.{Frame}
use Rattle.acc_base.specs.Numbers.{is_small}
use Rattle.acc_base.specs.Tables.{has_row, column_of, count_of, sum_of, least_of, greatest_of}
use Rattle.acc_base.specs.Linear.{var, variables, lin_value, lin_values}

-- the locals and the place on the tape as the reads go on
pub record Reading : Type 0 where
  pub locals : List ℤ
  pub at : ℕ

-- a frame before its reads
abbrev pub unread : Frame → Reading
unread f = record { locals = f.locals; at = f.pos }

-- the local that a read assigns
abbrev pub assigned : Read → ℕ
assigned (Let x l) = x
assigned (Col x t k c) = x
assigned (Has x t k) = x
assigned (Count x t p) = x
assigned (Sum x t p c) = x
assigned (Least x t p) = x
assigned (Greatest x t p) = x
assigned (Take x) = x
assigned (Mul x y z) = x
assigned (Div x y c) = x

-- the key or prefix that it names
abbrev pub read_key : Read → List Lin
read_key (Let x l) = []
read_key (Col x t k c) = k
read_key (Has x t k) = k
read_key (Count x t p) = p
read_key (Sum x t p c) = p
read_key (Least x t p) = p
read_key (Greatest x t p) = p
read_key (Take x) = []
read_key (Mul x y z) = []
read_key (Div x y c) = []

-- the value that it assigns; a number past the tape's end is 0, and a quotient is rounded down
abbrev pub read_value : List Row → List ℤ → ℕ → List ℤ → Read → ℤ
read_value db tape at env (Let x l) = lin_value env l
read_value db tape at env (Col x t k c) = column_of db t (lin_values env k) c
read_value db tape at env (Has x t k) = has_row db t (lin_values env k)
read_value db tape at env (Count x t p) = count_of db t (lin_values env p)
read_value db tape at env (Sum x t p c) = sum_of db t (lin_values env p) c
read_value db tape at env (Least x t p) = least_of db t (lin_values env p)
read_value db tape at env (Greatest x t p) = greatest_of db t (lin_values env p)
read_value db tape at env (Take x) = var tape at
read_value db tape at env (Mul x y z) = var env y *ℤ var env z
read_value db tape at env (Div x y c) = int_div_euclid (var env y) c

-- the place on the tape after it
abbrev pub at_after : ℕ → ℕ → Read → ℕ
at_after long at (Take x) = if nat_lt at long then (at + 1) else at
at_after long at (Let x l) = at
at_after long at (Col x t k c) = at
at_after long at (Has x t k) = at
at_after long at (Count x t p) = at
at_after long at (Sum x t p c) = at
at_after long at (Least x t p) = at
at_after long at (Greatest x t p) = at
at_after long at (Mul x y z) = at
at_after long at (Div x y c) = at

-- the locals and place after a read, or none where its value or a part of its key leaves the range
abbrev pub after_read : List Row → Frame → Reading → Read → Option Reading
after_read db f s r =
    let env = variables f.t s.locals in
    let v = read_value db f.tape s.at env r in
    if list_all is_small (v ∷ lin_values env (read_key r)) then Some
    (record { locals = slice_set s.locals (assigned r) v; at = at_after (length f.tape) s.at r }) else None

-- the reads one after the other
abbrev pub after_reads : List Row → Frame → List Read → Reading → Option Reading
after_reads db f [] s = Some s
after_reads db f (r ∷ rs) s = option_and_then (after_reads db f rs) (after_read db f s r)
