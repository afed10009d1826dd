-- What the program says of itself.
use Rattle.std.specs.Prelude.{ℕ, List, [], ◌∷◌, codes}
use Rattle.std.specs.List.{flat_map}
use Rattle.acc_base.specs.Lines.{line}

-- each command, and where the documents are
unfoldable pub help_lines : List (List ℕ)
help_lines =
    codes "acc play DESIGN SCRIPT ORDER                plays the script in the order's turns, and prints the turns and the replies" ∷
    codes "acc rehearse DESIGN CERT SCRIPT ORDER       the same by rules of locks, if the certificate proves it sound; ends the rest" ∷
    codes "acc print DESIGN                            prints the design in its one spelling" ∷
    codes "acc draw DESIGN                             prints a picture of the design, as Graphviz reads it" ∷
    codes "acc check DESIGN CERT                       tells whether the certificate proves that the design is sound, and else why not" ∷
    codes "acc prove DESIGN                            makes such a certificate, or tells which obligations stay open" ∷
    codes "acc advise DESIGN HELD STEP SIDE            tells which entry lets the step go where HELD is held, and forbids least" ∷
    codes "acc audit DESIGN COPY                       tells whether a clause is false after an event of a journal, whoever wrote it" ∷
    codes "acc follow DESIGN CERT COPY SIZE            replays a journal's whole batches, read in pieces of SIZE bytes, and prints the rows" ∷
    codes "acc init DESIGN JOURNAL                     makes JOURNAL a journal of the design without events, if it isn't one already" ∷
    codes "acc sched DESIGN CERT SCRIPT ORDER JOURNAL  recovers the journal, and goes on as `rehearse`; each end is kept in it" ∷
    codes "acc run DESIGN CERT SCRIPT WORKERS JOURNAL  recovers the journal, and 1 to 64 workers run the script; each end is kept in it" ∷
    codes "acc recover DESIGN CERT JOURNAL             ends what its events left unfinished, and tells how many events there are then" ∷
    codes "acc dump DESIGN CERT JOURNAL                does the same, and prints the rows that its events lead to" ∷
    codes "acc replies DESIGN CERT JOURNAL             does the same, and prints how each transaction ended, by its number" ∷
    codes "acc verify DESIGN CERT JOURNAL              does the same, and tells which of TPC-C's conditions 1 to 9 are true of its rows" ∷
    codes "acc migrate DESIGN CERT OLD JOURNAL         makes JOURNAL a new journal of what is recovered from OLD, which stays as it is" ∷
    codes "acc tpcc design                             prints the design of TPC-C's transactions that the program brings along" ∷
    codes "acc tpcc load W ITEMS CUSTOMERS             prints a script that fills W warehouses of TPC-C, 1 to 10, as the standard says" ∷
    codes "acc tpcc mix W ITEMS CUSTOMERS COUNT START  prints a script of COUNT of TPC-C's transactions behind that, drawn from START" ∷
    codes "acc booking design                          prints the design of bookings of seats and rooms that the program brings along" ∷
    codes "acc booking verify DESIGN CERT JOURNAL      recovers a journal of that design, and tells that no seat or room is sold twice" ∷
    codes "acc bench DESIGN CERT W ITEMS CUSTOMERS COUNT START  runs both in memory, and tells whether TPC-C's conditions are true" ∷
    codes "acc --help                                  prints these lines" ∷
    codes "acc --version                               prints the version of acc, and of the toolchain that proved it" ∷
    codes "README.md tells what acc is for, and docs/DESIGN-LANGUAGE.md how a design is written and how to mend one that is refused." ∷
    []

unfoldable pub help_text : List ℕ
help_text = flat_map line help_lines

-- the version of the program, and the line by which the toolchain names itself
unfoldable pub version_text : List ℕ
version_text = flat_map line (codes "acc 0.1.0" ∷ codes "rattle-kit-13f logic dac8208d650f15bf" ∷ [])
