use Rattle.tpcc_gen.specs.Draws.{each, both}
use Rattle.tpcc_gen.specs.Loads.{runs, warehouse_line, all_districts, items_line, stock_of, load}
use Rattle.tpcc_gen.specs.declared.districts.Part.TheVariants.{Districts, Customers, Orders}
use Rattle.tpcc_gen.proofs.Going.{writes_both}
use Rattle.tpcc_gen.proofs.loads.push_load.Goals as goal

pub returns : goal.returns
unfolding load
returns c =
    let w = c.args.scale.warehouses in
    let i = c.args.scale.items in
    let n = c.args.scale.customers in
    let out = c.push_all_districts-3.new.out in
    let words = c.push_all_districts-3.new.words in
    let behind = writes_both c.push_all_stock.new.out c.push_all_districts-2.new.out out c.push_all_stock.new.words c.push_all_districts-2.new.words words (all_districts Customers w i n) (all_districts Orders w i n) c.push_all_districts-2.ensures c.push_all_districts-3.ensures in
    let stock = writes_both c.push_all_items.new.out c.push_all_stock.new.out out c.push_all_items.new.words c.push_all_stock.new.words words (each (stock_of i) w 1) (both (all_districts Customers w i n) (all_districts Orders w i n)) c.push_all_stock.ensures behind in
    let items = writes_both c.push_all_districts.new.out c.push_all_items.new.out out c.push_all_districts.new.words c.push_all_items.new.words words (each (items_line i) (runs i) 1) (both (each (stock_of i) w 1) (both (all_districts Customers w i n) (all_districts Orders w i n))) c.push_all_items.ensures stock in
    let districts = writes_both c.push_warehouses.new.out c.push_all_districts.new.out out c.push_warehouses.new.words c.push_all_districts.new.words words (all_districts Districts w i n) (both (each (items_line i) (runs i) 1) (both (each (stock_of i) w 1) (both (all_districts Customers w i n) (all_districts Orders w i n)))) c.push_all_districts.ensures items in
    writes_both c.args.out.now c.push_warehouses.new.out out c.args.words.now c.push_warehouses.new.words words (each warehouse_line w 1) (both (all_districts Districts w i n) (both (each (items_line i) (runs i) 1) (both (each (stock_of i) w 1) (both (all_districts Customers w i n) (all_districts Orders w i n))))) c.push_warehouses.ensures districts
