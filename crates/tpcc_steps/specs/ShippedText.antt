-- The shipped text, and the design that it stands for.
use Rattle.std.specs.Prelude.{ℕ, List, [], ◌∷◌}
use Rattle.std.specs.List.{flat_map}
use Rattle.acc_base.specs.declared.designs.Design.{Design}
use Rattle.acc_shipped.specs.Texts.{design_in}
use Rattle.tpcc_steps.specs.declared.always.TheConstants.{MONEY, ORDER_NUMBERS, CARRIERS, CUSTOMERS, LINES, LINE_NUMBERS, DATES}
use Rattle.tpcc_steps.specs.declared.always.TheConstants.{LINE_AMOUNTS, COUNTED_ITEMS}
use Rattle.tpcc_steps.specs.declared.loading.TheConstants.{LOAD_WAREHOUSE, LOAD_DISTRICT, LOAD_ITEMS, LOAD_STOCK, LOAD_CUSTOMERS, LOAD_ORDER}
use Rattle.tpcc_steps.specs.declared.locks.TheConstants.{ENTRIES, HINTS}
use Rattle.tpcc_steps.specs.declared.tables.TheConstants.{TABLES}
use Rattle.tpcc_steps.specs.declared.transactions.TheConstants.{PAYMENT, NEW_ORDER, DELIVERY, ORDER_STATUS, STOCK_LEVEL}

-- the bytes of the text: one part behind the other
abbrev pub shipped_bytes : List ℕ
shipped_bytes =
    flat_map (λ part. part.now)
    (TABLES ∷ MONEY ∷ ORDER_NUMBERS ∷ CARRIERS ∷ CUSTOMERS ∷ LINES ∷ LINE_NUMBERS ∷ DATES ∷ LINE_AMOUNTS
    ∷ COUNTED_ITEMS ∷ PAYMENT ∷ NEW_ORDER ∷ DELIVERY ∷ ORDER_STATUS ∷ STOCK_LEVEL ∷ LOAD_WAREHOUSE
    ∷ LOAD_DISTRICT ∷ LOAD_ITEMS ∷ LOAD_STOCK ∷ LOAD_CUSTOMERS ∷ LOAD_ORDER ∷ ENTRIES ∷ HINTS ∷ [])

-- what the text stands for
abbrev pub shipped_design : Design
shipped_design = design_in shipped_bytes
