-- The tables of the shipped design, and what it asserts at all times.
use Rattle.std.specs.Prelude.{◌≡◌, true, false, List, [], ◌∷◌, ℕ, codes, map, ℤ, pos, negsuc}
use Rattle.acc_base.specs.declared.tables.Table.{Table}
use Rattle.acc_base.specs.declared.forms.Clause.{Clause}
use Rattle.acc_base.specs.declared.designs.Design.{Design}
use Rattle.acc_shipped.specs.Amounts.{Assertion, Var, Has, Col, Count, Sum, plus, minus, times, none, most, for_all, clause_of}

abbrev table : List ℕ → ℕ → List (List ℕ) → Table
table name width cols = record { name = name; width = width; cols = cols; own = false }

abbrev private : List ℕ → ℕ → List (List ℕ) → Table
private name width cols = record { name = name; width = width; cols = cols; own = true }

abbrev pub shipped_tables : List Table
shipped_tables =
    table (codes "WAREHOUSE") 1 (codes "ytd" ∷ codes "tax" ∷ [])
    ∷ table (codes "DISTRICT") 2 (codes "ytd" ∷ codes "tax" ∷ codes "nxt" ∷ codes "low" ∷ [])
    ∷ table (codes "CUSTOMER") 3 (codes "bal" ∷ codes "paid" ∷ codes "pays" ∷ codes "dels" ∷ codes "disc" ∷ [])
    ∷ table (codes "HISTORY") 3 (codes "amt" ∷ [])
    ∷ table (codes "HCUST") 4 (codes "amt" ∷ [])
    ∷ table (codes "NEWORDER") 3 []
    ∷ table (codes "ORDERS") 3 (codes "c" ∷ codes "carrier" ∷ codes "cnt" ∷ codes "entered" ∷ codes "owner" ∷ codes "agent" ∷ [])
    ∷ table (codes "CUSTORDER") 4 []
    ∷ table (codes "LINE") 5 (codes "item" ∷ codes "supply" ∷ codes "qty" ∷ codes "amt" ∷ codes "date" ∷ codes "delta" ∷ [])
    ∷ table (codes "ITEM") 1 (codes "price" ∷ [])
    ∷ table (codes "STOCK") 2 (codes "qty" ∷ codes "ytd" ∷ codes "cnt" ∷ codes "remote" ∷ [])
    ∷ private (codes "DUE") 3 (codes "amt" ∷ [])
    ∷ private (codes "TAKEN") 4 []
    ∷ private (codes "SEEN") 3 []
    ∷ []

-- forall w : WAREHOUSE[w].ytd = sum DISTRICT[w].ytd + sum DUE[w].amt
abbrev pub always_0 : Assertion
always_0 =
    for_all (codes "w" ∷ [])
    []
    (none (plus (Col 0 (0 ∷ []) 0) ∷ minus (Sum 1 (0 ∷ []) 0) ∷ minus (Sum 11 (0 ∷ []) 0) ∷ []) (pos 0))

-- forall w : WAREHOUSE[w].ytd = sum HISTORY[w].amt + sum DUE[w].amt
abbrev pub always_1 : Assertion
always_1 =
    for_all (codes "w" ∷ [])
    []
    (none (plus (Col 0 (0 ∷ []) 0) ∷ minus (Sum 3 (0 ∷ []) 0) ∷ minus (Sum 11 (0 ∷ []) 0) ∷ []) (pos 0))

-- forall w d : DISTRICT[w, d].ytd = sum HISTORY[w, d].amt
abbrev pub always_2 : Assertion
always_2 =
    for_all (codes "w" ∷ codes "d" ∷ [])
    []
    (none (plus (Col 1 (0 ∷ 1 ∷ []) 0) ∷ minus (Sum 3 (0 ∷ 1 ∷ []) 0) ∷ []) (pos 0))

-- forall w d : DISTRICT[w, d].low >= has DISTRICT[w, d]
abbrev pub always_3 : Assertion
always_3 =
    for_all (codes "w" ∷ codes "d" ∷ [])
    []
    (most (plus (Has 1 (0 ∷ 1 ∷ [])) ∷ minus (Col 1 (0 ∷ 1 ∷ []) 3) ∷ []) (pos 0))

-- forall w d : count NEWORDER[w, d] = DISTRICT[w, d].nxt - DISTRICT[w, d].low
abbrev pub always_4 : Assertion
always_4 =
    for_all (codes "w" ∷ codes "d" ∷ [])
    []
    (none (plus (Count 5 (0 ∷ 1 ∷ [])) ∷ minus (Col 1 (0 ∷ 1 ∷ []) 2) ∷ plus (Col 1 (0 ∷ 1 ∷ []) 3) ∷ []) (pos 0))

-- forall w d o : has NEWORDER[w, d, o] <= has ORDERS[w, d, o]
abbrev pub always_5 : Assertion
always_5 =
    for_all (codes "w" ∷ codes "d" ∷ codes "o" ∷ [])
    []
    (most (plus (Has 5 (0 ∷ 1 ∷ 2 ∷ [])) ∷ minus (Has 6 (0 ∷ 1 ∷ 2 ∷ [])) ∷ []) (pos 0))

-- forall w d o : o >= DISTRICT[w, d].nxt => has NEWORDER[w, d, o] = 0
abbrev pub always_6 : Assertion
always_6 =
    for_all (codes "w" ∷ codes "d" ∷ codes "o" ∷ [])
    ((most (plus (Col 1 (0 ∷ 1 ∷ []) 2) ∷ minus (Var 2) ∷ []) (pos 0)) ∷ [])
    (none (plus (Has 5 (0 ∷ 1 ∷ 2 ∷ [])) ∷ []) (pos 0))

-- forall w d c o : o >= DISTRICT[w, d].nxt => count LINE[w, d, c, o] = 0
abbrev pub always_7 : Assertion
always_7 =
    for_all (codes "w" ∷ codes "d" ∷ codes "c" ∷ codes "o" ∷ [])
    ((most (plus (Col 1 (0 ∷ 1 ∷ []) 2) ∷ minus (Var 3) ∷ []) (pos 0)) ∷ [])
    (none (plus (Count 8 (0 ∷ 1 ∷ 2 ∷ 3 ∷ [])) ∷ []) (pos 0))

-- forall w d o : o >= DISTRICT[w, d].nxt => has ORDERS[w, d, o] = 0
abbrev pub always_8 : Assertion
always_8 =
    for_all (codes "w" ∷ codes "d" ∷ codes "o" ∷ [])
    ((most (plus (Col 1 (0 ∷ 1 ∷ []) 2) ∷ minus (Var 2) ∷ []) (pos 0)) ∷ [])
    (none (plus (Has 6 (0 ∷ 1 ∷ 2 ∷ [])) ∷ []) (pos 0))

-- forall w d o : o <= 0 => has ORDERS[w, d, o] = 0
abbrev pub always_9 : Assertion
always_9 =
    for_all (codes "w" ∷ codes "d" ∷ codes "o" ∷ [])
    ((most (plus (Var 2) ∷ []) (pos 0)) ∷ [])
    (none (plus (Has 6 (0 ∷ 1 ∷ 2 ∷ [])) ∷ []) (pos 0))

-- forall w d o : o >= 1, o <= DISTRICT[w, d].nxt - 1 => has ORDERS[w, d, o] = 1
abbrev pub always_10 : Assertion
always_10 =
    for_all (codes "w" ∷ codes "d" ∷ codes "o" ∷ [])
    ((most (minus (Var 2) ∷ []) (pos 1)) ∷ (most (plus (Var 2) ∷ minus (Col 1 (0 ∷ 1 ∷ []) 2) ∷ []) (pos 1)) ∷ [])
    (none (plus (Has 6 (0 ∷ 1 ∷ 2 ∷ [])) ∷ []) (negsuc 0))

-- forall w d o : has NEWORDER[w, d, o] = 1 => o >= DISTRICT[w, d].low
abbrev pub always_11 : Assertion
always_11 =
    for_all (codes "w" ∷ codes "d" ∷ codes "o" ∷ [])
    ((none (plus (Has 5 (0 ∷ 1 ∷ 2 ∷ [])) ∷ []) (negsuc 0)) ∷ [])
    (most (plus (Col 1 (0 ∷ 1 ∷ []) 3) ∷ minus (Var 2) ∷ []) (pos 0))

-- forall w d o : o >= DISTRICT[w, d].low, o <= DISTRICT[w, d].nxt - 1 => has NEWORDER[w, d, o] = 1
abbrev pub always_12 : Assertion
always_12 =
    for_all (codes "w" ∷ codes "d" ∷ codes "o" ∷ [])
    ((most (plus (Col 1 (0 ∷ 1 ∷ []) 3) ∷ minus (Var 2) ∷ []) (pos 0))
    ∷ (most (plus (Var 2) ∷ minus (Col 1 (0 ∷ 1 ∷ []) 2) ∷ []) (pos 1)) ∷ [])
    (none (plus (Has 5 (0 ∷ 1 ∷ 2 ∷ [])) ∷ []) (negsuc 0))

-- forall w d o : ORDERS[w, d, o].carrier >= 0
abbrev pub always_13 : Assertion
always_13 =
    for_all (codes "w" ∷ codes "d" ∷ codes "o" ∷ [])
    []
    (most (minus (Col 6 (0 ∷ 1 ∷ 2 ∷ []) 1) ∷ []) (pos 0))

-- forall w d o : ORDERS[w, d, o].carrier <= 10 - 10 * has NEWORDER[w, d, o]
abbrev pub always_14 : Assertion
always_14 =
    for_all (codes "w" ∷ codes "d" ∷ codes "o" ∷ [])
    []
    (most (plus (Col 6 (0 ∷ 1 ∷ 2 ∷ []) 1) ∷ times (pos 10) (Has 5 (0 ∷ 1 ∷ 2 ∷ [])) ∷ []) (negsuc 9))

-- forall w d o : ORDERS[w, d, o].carrier >= has ORDERS[w, d, o] - has NEWORDER[w, d, o]
abbrev pub always_15 : Assertion
always_15 =
    for_all (codes "w" ∷ codes "d" ∷ codes "o" ∷ [])
    []
    (most (plus (Has 6 (0 ∷ 1 ∷ 2 ∷ [])) ∷ minus (Has 5 (0 ∷ 1 ∷ 2 ∷ [])) ∷ minus (Col 6 (0 ∷ 1 ∷ 2 ∷ []) 1) ∷ []) (pos 0))

-- forall w d o : ORDERS[w, d, o].cnt >= 0
abbrev pub always_16 : Assertion
always_16 =
    for_all (codes "w" ∷ codes "d" ∷ codes "o" ∷ [])
    []
    (most (minus (Col 6 (0 ∷ 1 ∷ 2 ∷ []) 2) ∷ []) (pos 0))

-- forall w d o : ORDERS[w, d, o].cnt <= 15
abbrev pub always_17 : Assertion
always_17 =
    for_all (codes "w" ∷ codes "d" ∷ codes "o" ∷ [])
    []
    (most (plus (Col 6 (0 ∷ 1 ∷ 2 ∷ []) 2) ∷ []) (negsuc 14))

-- forall w d o c : ORDERS[w, d, o].c = c => has ORDERS[w, d, o] <= has CUSTOMER[w, d, c]
abbrev pub always_18 : Assertion
always_18 =
    for_all (codes "w" ∷ codes "d" ∷ codes "o" ∷ codes "c" ∷ [])
    ((none (plus (Col 6 (0 ∷ 1 ∷ 2 ∷ []) 0) ∷ minus (Var 3) ∷ []) (pos 0)) ∷ [])
    (most (plus (Has 6 (0 ∷ 1 ∷ 2 ∷ [])) ∷ minus (Has 2 (0 ∷ 1 ∷ 3 ∷ [])) ∷ []) (pos 0))

-- forall w d c o : count LINE[w, d, c, o] <= 15 * has ORDERS[w, d, o]
abbrev pub always_19 : Assertion
always_19 =
    for_all (codes "w" ∷ codes "d" ∷ codes "c" ∷ codes "o" ∷ [])
    []
    (most (plus (Count 8 (0 ∷ 1 ∷ 2 ∷ 3 ∷ [])) ∷ times (negsuc 14) (Has 6 (0 ∷ 1 ∷ 3 ∷ [])) ∷ []) (pos 0))

-- forall w d c o : c <= ORDERS[w, d, o].c - 1 => count LINE[w, d, c, o] = 0
abbrev pub always_20 : Assertion
always_20 =
    for_all (codes "w" ∷ codes "d" ∷ codes "c" ∷ codes "o" ∷ [])
    ((most (plus (Var 2) ∷ minus (Col 6 (0 ∷ 1 ∷ 3 ∷ []) 0) ∷ []) (pos 1)) ∷ [])
    (none (plus (Count 8 (0 ∷ 1 ∷ 2 ∷ 3 ∷ [])) ∷ []) (pos 0))

-- forall w d c o : c >= ORDERS[w, d, o].c + 1 => count LINE[w, d, c, o] = 0
abbrev pub always_21 : Assertion
always_21 =
    for_all (codes "w" ∷ codes "d" ∷ codes "c" ∷ codes "o" ∷ [])
    ((most (plus (Col 6 (0 ∷ 1 ∷ 3 ∷ []) 0) ∷ minus (Var 2) ∷ []) (pos 1)) ∷ [])
    (none (plus (Count 8 (0 ∷ 1 ∷ 2 ∷ 3 ∷ [])) ∷ []) (pos 0))

-- forall w d c o : ORDERS[w, d, o].c = c => count LINE[w, d, c, o] = ORDERS[w, d, o].cnt
abbrev pub always_22 : Assertion
always_22 =
    for_all (codes "w" ∷ codes "d" ∷ codes "c" ∷ codes "o" ∷ [])
    ((none (plus (Col 6 (0 ∷ 1 ∷ 3 ∷ []) 0) ∷ minus (Var 2) ∷ []) (pos 0)) ∷ [])
    (none (plus (Count 8 (0 ∷ 1 ∷ 2 ∷ 3 ∷ [])) ∷ minus (Col 6 (0 ∷ 1 ∷ 3 ∷ []) 2) ∷ []) (pos 0))

-- forall w d : count LINE[w, d] = sum ORDERS[w, d].cnt
abbrev pub always_23 : Assertion
always_23 =
    for_all (codes "w" ∷ codes "d" ∷ [])
    []
    (none (plus (Count 8 (0 ∷ 1 ∷ [])) ∷ minus (Sum 6 (0 ∷ 1 ∷ []) 2) ∷ []) (pos 0))

-- forall w d c o number : number <= 0 => has LINE[w, d, c, o, number] = 0
abbrev pub always_24 : Assertion
always_24 =
    for_all (codes "w" ∷ codes "d" ∷ codes "c" ∷ codes "o" ∷ codes "number" ∷ [])
    ((most (plus (Var 4) ∷ []) (pos 0)) ∷ [])
    (none (plus (Has 8 (0 ∷ 1 ∷ 2 ∷ 3 ∷ 4 ∷ [])) ∷ []) (pos 0))

-- forall w d c o number : number >= ORDERS[w, d, o].cnt + 1 => has LINE[w, d, c, o, number] = 0
abbrev pub always_25 : Assertion
always_25 =
    for_all (codes "w" ∷ codes "d" ∷ codes "c" ∷ codes "o" ∷ codes "number" ∷ [])
    ((most (plus (Col 6 (0 ∷ 1 ∷ 3 ∷ []) 2) ∷ minus (Var 4) ∷ []) (pos 1)) ∷ [])
    (none (plus (Has 8 (0 ∷ 1 ∷ 2 ∷ 3 ∷ 4 ∷ [])) ∷ []) (pos 0))

-- forall w d c o number : ORDERS[w, d, o].c = c, number >= 1, number <= ORDERS[w, d, o].cnt => has LINE[w, d, c, o, number] = 1
abbrev pub always_26 : Assertion
always_26 =
    for_all (codes "w" ∷ codes "d" ∷ codes "c" ∷ codes "o" ∷ codes "number" ∷ [])
    ((none (plus (Col 6 (0 ∷ 1 ∷ 3 ∷ []) 0) ∷ minus (Var 2) ∷ []) (pos 0)) ∷ (most (minus (Var 4) ∷ []) (pos 1))
    ∷ (most (plus (Var 4) ∷ minus (Col 6 (0 ∷ 1 ∷ 3 ∷ []) 2) ∷ []) (pos 0)) ∷ [])
    (none (plus (Has 8 (0 ∷ 1 ∷ 2 ∷ 3 ∷ 4 ∷ [])) ∷ []) (negsuc 0))

-- forall w d c o number : LINE[w, d, c, o, number].date >= 0
abbrev pub always_27 : Assertion
always_27 =
    for_all (codes "w" ∷ codes "d" ∷ codes "c" ∷ codes "o" ∷ codes "number" ∷ [])
    []
    (most (minus (Col 8 (0 ∷ 1 ∷ 2 ∷ 3 ∷ 4 ∷ []) 4) ∷ []) (pos 0))

-- forall w d c o number : has NEWORDER[w, d, o] = 1 => LINE[w, d, c, o, number].date <= 0
abbrev pub always_28 : Assertion
always_28 =
    for_all (codes "w" ∷ codes "d" ∷ codes "c" ∷ codes "o" ∷ codes "number" ∷ [])
    ((none (plus (Has 5 (0 ∷ 1 ∷ 3 ∷ [])) ∷ []) (negsuc 0)) ∷ [])
    (most (plus (Col 8 (0 ∷ 1 ∷ 2 ∷ 3 ∷ 4 ∷ []) 4) ∷ []) (pos 0))

-- forall w d c o number : LINE[w, d, c, o, number].date >= has LINE[w, d, c, o, number] - has NEWORDER[w, d, o] - count TAKEN[w, d, o]
abbrev pub always_29 : Assertion
always_29 =
    for_all (codes "w" ∷ codes "d" ∷ codes "c" ∷ codes "o" ∷ codes "number" ∷ [])
    []
    (most (plus (Has 8 (0 ∷ 1 ∷ 2 ∷ 3 ∷ 4 ∷ [])) ∷ minus (Has 5 (0 ∷ 1 ∷ 3 ∷ [])) ∷ minus (Count 12 (0 ∷ 1 ∷ 3 ∷ []))
    ∷ minus (Col 8 (0 ∷ 1 ∷ 2 ∷ 3 ∷ 4 ∷ []) 4) ∷ []) (pos 0))

-- forall w d c o number : LINE[w, d, c, o, number].amt >= 0
abbrev pub always_30 : Assertion
always_30 =
    for_all (codes "w" ∷ codes "d" ∷ codes "c" ∷ codes "o" ∷ codes "number" ∷ [])
    []
    (most (minus (Col 8 (0 ∷ 1 ∷ 2 ∷ 3 ∷ 4 ∷ []) 3) ∷ []) (pos 0))

-- forall w d c o number : LINE[w, d, c, o, number].amt <= 999999
abbrev pub always_31 : Assertion
always_31 =
    for_all (codes "w" ∷ codes "d" ∷ codes "c" ∷ codes "o" ∷ codes "number" ∷ [])
    []
    (most (plus (Col 8 (0 ∷ 1 ∷ 2 ∷ 3 ∷ 4 ∷ []) 3) ∷ []) (negsuc 999998))

-- forall t : count SEEN[t] >= 0
abbrev pub always_32 : Assertion
always_32 =
    for_all (codes "t" ∷ [])
    []
    (most (minus (Count 13 (0 ∷ [])) ∷ []) (pos 0))

-- forall t i : count SEEN[t, i] = has SEEN[t, i, t]
abbrev pub always_33 : Assertion
always_33 =
    for_all (codes "t" ∷ codes "i" ∷ [])
    []
    (none (plus (Count 13 (0 ∷ 1 ∷ [])) ∷ minus (Has 13 (0 ∷ 1 ∷ 0 ∷ [])) ∷ []) (pos 0))

-- forall t i u : u <= t - 1 => has SEEN[t, i, u] = 0
abbrev pub always_34 : Assertion
always_34 =
    for_all (codes "t" ∷ codes "i" ∷ codes "u" ∷ [])
    ((most (plus (Var 2) ∷ minus (Var 0) ∷ []) (pos 1)) ∷ [])
    (none (plus (Has 13 (0 ∷ 1 ∷ 2 ∷ [])) ∷ []) (pos 0))

-- forall t i u : u >= t + 1 => has SEEN[t, i, u] = 0
abbrev pub always_35 : Assertion
always_35 =
    for_all (codes "t" ∷ codes "i" ∷ codes "u" ∷ [])
    ((most (plus (Var 0) ∷ minus (Var 2) ∷ []) (pos 1)) ∷ [])
    (none (plus (Has 13 (0 ∷ 1 ∷ 2 ∷ [])) ∷ []) (pos 0))

abbrev pub shipped_always : List Assertion
shipped_always =
    always_0 ∷ always_1 ∷ always_2 ∷ always_3 ∷ always_4 ∷ always_5 ∷ always_6 ∷ always_7 ∷ always_8 ∷
    always_9 ∷ always_10 ∷ always_11 ∷ always_12 ∷ always_13 ∷ always_14 ∷ always_15 ∷ always_16 ∷ always_17 ∷
    always_18 ∷ always_19 ∷ always_20 ∷ always_21 ∷ always_22 ∷ always_23 ∷ always_24 ∷ always_25 ∷ always_26 ∷
    always_27 ∷ always_28 ∷ always_29 ∷ always_30 ∷ always_31 ∷ always_32 ∷ always_33 ∷ always_34 ∷ always_35 ∷ []

-- a design has the tables of the shipped one, and asserts the same at all times
pub record HasShipped (d : Design) : Type 0 where
  pub tables : d.tables ≡ shipped_tables
  pub always : d.always ≡ map clause_of shipped_always
