use Rattle.acc_index_store.proofs.batches.make_room_and_write.Goals as goal

pub write_all-requires-clause-totals : goal.write_all-requires-clause-totals
write_all-requires-clause-totals c = c.make_all_room.ensures.same c.args.rows.now c.requires.totals

pub returns-in_err-make_all_room-clause-totals : goal.returns-in_err-make_all_room-clause-totals
returns-in_err-make_all_room-clause-totals c = c.make_all_room.ensures.same c.args.rows.now c.requires.totals
