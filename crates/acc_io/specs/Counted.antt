-- What a shelf counts of its reads.
use Rattle.std.specs.Prelude.{ℕ, zero, suc, Result, Ok, Err}
use Rattle.acc_io.specs.Causes.{one_more}
use Rattle.acc_io.specs.declared.counts.Counts.{Counts}
use Rattle.acc_io.specs.declared.shelf.ShelfError.{ShelfError}
use Rattle.acc_io.specs.declared.shelf.ShelfError.TheVariants.{Failed, Absent, Long, Memory}

-- no read was made
abbrev pub none_counted : Counts
none_counted = record { reads = 0; faults = 0; absences = 0; last_fault = 0; last_absence = 0 }

-- one more read, which neither failed nor missed its file
abbrev pub after_given : Counts → Counts
after_given c = record c { reads = one_more c.reads }

-- one more read, which failed: it is the last that did
abbrev pub after_fault : Counts → Counts
after_fault c = record c { reads = one_more c.reads; faults = one_more c.faults; last_fault = one_more c.reads }

-- one more read, which missed its file: it is the last that did
abbrev pub after_absence : Counts → Counts
after_absence c = record c { reads = one_more c.reads; absences = one_more c.absences; last_absence = one_more c.reads }

-- one more read, which was refused so
abbrev pub after_refusal : Counts → ShelfError → Counts
after_refusal c Failed = after_fault c
after_refusal c Absent = after_absence c
after_refusal c (Long n) = after_absence c
after_refusal c Memory = after_given c

-- one more read, with this answer
abbrev pub after_read : {T : Type 0} → Counts → Result T ShelfError → Counts
after_read c (Ok file) = after_given c
after_read c (Err e) = after_refusal c e

-- so many more reads, which each gave their file
abbrev pub after_files : ℕ → Counts → Counts
after_files zero c = c
after_files (suc n) c = after_given (after_files n c)
