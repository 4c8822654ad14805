-- Worked scripts of tables and pages, on the machine of the other scripts.
use Rattle.std.specs.Prelude.{ℕ, List, [], ◌∷◌, ◌++◌}
use Rattle.rmm_spec.specs.declared.function_id.FunctionId.TheVariants.{GranuleUndelegate, DataCreate, DataCreateUnknown, DataDestroy, RealmActivate, RealmCreate, RecCreate, RecEnter, RttCreate, RttDestroy, RttFold, RttMapUnprotected, RttReadEntry, RttUnmapUnprotected, RttInitRipas, RttSetRipas, MeasurementExtend, IpaStateSet, IpaStateGet, Exit}
use Rattle.rmm_spec.specs.declared.reply.Reply.TheVariants as reply
use Rattle.rmm_spec.specs.Rows.{ok}
use Rattle.rmm_spec.specs.Run.{JournalEntry}
use Rattle.rmm_spec.specs.Script.{answered, realm_among}

-- two tables lie below the root of a realm, for its first addresses
abbrev tables_among : ℕ → List JournalEntry
tables_among n =
    realm_among n
    ++ answered RttCreate (0x1000 ∷ 0x3000 ∷ 0 ∷ 2 ∷ []) (ok [])
    ∷ answered RttCreate (0x1000 ∷ 0x4000 ∷ 0 ∷ 3 ∷ []) (ok [])
    ∷ []

-- and a REC of it runs
abbrev asking_rec : List JournalEntry
asking_rec =
    realm_among 7
    ++ answered RecCreate (0x1000 ∷ 0x5000 ∷ 0 ∷ 1 ∷ 0x6000 ∷ 0x7000 ∷ []) (ok [])
    ∷ answered RttCreate (0x1000 ∷ 0x3000 ∷ 0 ∷ 2 ∷ []) (ok [])
    ∷ answered RttCreate (0x1000 ∷ 0x4000 ∷ 0 ∷ 3 ∷ []) (ok [])
    ∷ answered RealmActivate (0x1000 ∷ []) (ok [])
    ∷ answered RecEnter (0x5000 ∷ []) (ok (0 ∷ []))
    ∷ []

-- a table with a page in it can't be taken out, and can once the page was taken back
unfoldable pub table_with_data_stays : List JournalEntry
table_with_data_stays =
    tables_among 5
    ++ answered DataCreateUnknown (0x1000 ∷ 0x5000 ∷ 0x1ff000 ∷ []) (ok [])
    ∷ answered RttDestroy (0x1000 ∷ 0 ∷ 3 ∷ []) (reply.Err 4 3)
    ∷ answered DataDestroy (0x1000 ∷ 0x1ff000 ∷ []) (ok (0x5000 ∷ []))
    ∷ answered RttDestroy (0x1000 ∷ 0 ∷ 3 ∷ []) (ok (0x4000 ∷ []))
    ∷ answered RttReadEntry (0x1000 ∷ 0 ∷ 3 ∷ []) (ok (2 ∷ 0 ∷ 0 ∷ 2 ∷ []))
    ∷ []

-- a table folds once all its entries are RAM, and not before
unfoldable pub table_folds : List JournalEntry
table_folds =
    tables_among 4
    ++ answered RttInitRipas (0x1000 ∷ 0 ∷ 0x1000 ∷ []) (ok (0x1000 ∷ []))
    ∷ answered RttFold (0x1000 ∷ 0 ∷ 3 ∷ []) (reply.Err 4 3)
    ∷ answered RttInitRipas (0x1000 ∷ 0x1000 ∷ 0x200000 ∷ []) (ok (0x200000 ∷ []))
    ∷ answered RttFold (0x1000 ∷ 0 ∷ 3 ∷ []) (ok (0x4000 ∷ []))
    ∷ answered RttReadEntry (0x1000 ∷ 0 ∷ 3 ∷ []) (ok (2 ∷ 0 ∷ 0 ∷ 1 ∷ []))
    ∷ answered RttFold (0x1000 ∷ 0 ∷ 3 ∷ []) (reply.Err 4 2)
    ∷ answered RttFold (0x1000 ∷ 0 ∷ 2 ∷ []) (reply.Err 4 2)
    ∷ answered RttFold (0x1000 ∷ 0 ∷ 1 ∷ []) (reply.Err 1 0)
    ∷ answered GranuleUndelegate (0x4000 ∷ []) (ok [])
    ∷ []

-- a page of one realm can't be given to another
unfoldable pub data_granule_mapped_twice : List JournalEntry
data_granule_mapped_twice =
    realm_among 9
    ++ answered RealmCreate (0x6000 ∷ 0x7000 ∷ 39 ∷ 1 ∷ 2 ∷ 0 ∷ []) (ok [])
    ∷ answered RttCreate (0x1000 ∷ 0x3000 ∷ 0 ∷ 2 ∷ []) (ok [])
    ∷ answered RttCreate (0x1000 ∷ 0x4000 ∷ 0 ∷ 3 ∷ []) (ok [])
    ∷ answered RttCreate (0x6000 ∷ 0x8000 ∷ 0 ∷ 2 ∷ []) (ok [])
    ∷ answered RttCreate (0x6000 ∷ 0x9000 ∷ 0 ∷ 3 ∷ []) (ok [])
    ∷ answered DataCreateUnknown (0x1000 ∷ 0x5000 ∷ 0 ∷ []) (ok [])
    ∷ answered DataCreateUnknown (0x6000 ∷ 0x5000 ∷ 0 ∷ []) (reply.Err 1 0)
    ∷ []

-- a stretch that a realm asked for becomes RAM in two commands
unfoldable pub ripas_change_in_two_parts : List JournalEntry
ripas_change_in_two_parts =
    asking_rec
    ++ answered IpaStateSet (0 ∷ 0x3000 ∷ 1 ∷ []) (ok [])
    ∷ answered Exit [] (ok (4 ∷ 0 ∷ 0x3000 ∷ 1 ∷ []))
    ∷ answered RttSetRipas (0x1000 ∷ 0x5000 ∷ 0 ∷ 0x3000 ∷ []) (ok (0x1000 ∷ []))
    ∷ answered RttSetRipas (0x1000 ∷ 0x5000 ∷ 0x1000 ∷ 0x3000 ∷ []) (ok (0x3000 ∷ []))
    ∷ answered RecEnter (0x5000 ∷ []) (ok (0x3000 ∷ []))
    ∷ answered IpaStateGet (0x2000 ∷ []) (ok (1 ∷ []))
    ∷ []

-- a stretch ends by the end of its table, and goes on in the table above where that has room
unfoldable pub ripas_change_past_table : List JournalEntry
ripas_change_past_table =
    asking_rec
    ++ answered IpaStateSet (0x1ff000 ∷ 0x201000 ∷ 1 ∷ []) (ok [])
    ∷ answered Exit [] (ok (4 ∷ 0x1ff000 ∷ 0x201000 ∷ 1 ∷ []))
    ∷ answered RttSetRipas (0x1000 ∷ 0x5000 ∷ 0x1ff000 ∷ 0x201000 ∷ []) (ok (0x200000 ∷ []))
    ∷ answered RttSetRipas (0x1000 ∷ 0x5000 ∷ 0x200000 ∷ 0x201000 ∷ []) (reply.Err 4 2)
    ∷ []

-- pages are said to be RAM, one is given with its content, and is lost when it is taken back
unfoldable pub ripas_before_a_realm_runs : List JournalEntry
ripas_before_a_realm_runs =
    tables_among 5
    ++ answered DataCreate (0x1000 ∷ 0x5000 ∷ 0 ∷ 0x6000 ∷ 0 ∷ 0 ∷ 0 ∷ 0 ∷ 0 ∷ []) (reply.Err 4 3)
    ∷ answered RttInitRipas (0x1000 ∷ 0 ∷ 0x2000 ∷ []) (ok (0x2000 ∷ []))
    ∷ answered DataCreate (0x1000 ∷ 0x5000 ∷ 0x1000 ∷ 0x6000 ∷ 1 ∷ 10 ∷ 11 ∷ 12 ∷ 13 ∷ []) (ok [])
    ∷ answered RttReadEntry (0x1000 ∷ 0x1000 ∷ 3 ∷ []) (ok (3 ∷ 1 ∷ 0x5000 ∷ 1 ∷ []))
    ∷ answered RttInitRipas (0x1000 ∷ 0x1000 ∷ 0x3000 ∷ []) (reply.Err 4 3)
    ∷ answered DataDestroy (0x1000 ∷ 0x1000 ∷ []) (ok (0x5000 ∷ []))
    ∷ answered RttReadEntry (0x1000 ∷ 0x1000 ∷ 3 ∷ []) (ok (3 ∷ 0 ∷ 0 ∷ 2 ∷ []))
    ∷ answered RttMapUnprotected (0x1000 ∷ 0x4000000000 ∷ 0 ∷ []) (reply.Err 4 1)
    ∷ answered RttReadEntry (0x1000 ∷ 0 ∷ 1 ∷ []) (ok (1 ∷ 2 ∷ 0x3000 ∷ 0 ∷ []))
    ∷ []

-- words past their ranges are refused, whatever their size
unfoldable pub words_out_of_range : List JournalEntry
words_out_of_range =
    realm_among 3
    ++ answered RttCreate (0x1000 ∷ 0x3000 ∷ 0 ∷ 0 ∷ []) (reply.Err 1 0)
    ∷ answered RttCreate (0x1000 ∷ 0x3000 ∷ 0 ∷ 0xffffffffffffffff ∷ []) (reply.Err 1 0)
    ∷ answered RttReadEntry (0x1000 ∷ 0x8000000000 ∷ 1 ∷ []) (reply.Err 1 0)
    ∷ answered RttReadEntry (0x1000 ∷ 0 ∷ 0 ∷ []) (reply.Err 1 0)
    ∷ answered RttInitRipas (0x1000 ∷ 0xfffffffffffff000 ∷ 0 ∷ []) (reply.Err 1 0)
    ∷ answered RttInitRipas (0x1000 ∷ 0 ∷ 0x4000001000 ∷ []) (reply.Err 1 0)
    ∷ answered RttMapUnprotected (0x1000 ∷ 0x4000000000 ∷ 0x1000000000000 ∷ []) (reply.Err 1 0)
    ∷ answered RecCreate (0x1000 ∷ 0x3000 ∷ 0 ∷ 1 ∷ 0x3000 ∷ 0x3000 ∷ []) (reply.Err 1 0)
    ∷ []

-- a page of the host is mapped once, read, unmapped and read again; a REC extends a measurement and leaves by an interrupt
unfoldable pub page_of_the_host : List JournalEntry
page_of_the_host =
    realm_among 7
    ++ answered RttCreate (0x1000 ∷ 0x3000 ∷ 0x4000000000 ∷ 2 ∷ []) (ok [])
    ∷ answered RttCreate (0x1000 ∷ 0x4000 ∷ 0x4000000000 ∷ 3 ∷ []) (ok [])
    ∷ answered RttMapUnprotected (0x1000 ∷ 0x4000000000 ∷ 0x8000 ∷ []) (ok [])
    ∷ answered RttMapUnprotected (0x1000 ∷ 0x4000000000 ∷ 0x9000 ∷ []) (reply.Err 4 3)
    ∷ answered RttReadEntry (0x1000 ∷ 0x4000000000 ∷ 3 ∷ []) (ok (3 ∷ 1 ∷ 0x8000 ∷ 0 ∷ []))
    ∷ answered RttUnmapUnprotected (0x1000 ∷ 0x4000000000 ∷ []) (ok [])
    ∷ answered RttReadEntry (0x1000 ∷ 0x4000000000 ∷ 3 ∷ []) (ok (3 ∷ 0 ∷ 0 ∷ 0 ∷ []))
    ∷ answered RttUnmapUnprotected (0x1000 ∷ 0x4000000000 ∷ []) (reply.Err 4 3)
    ∷ answered RecCreate (0x1000 ∷ 0x5000 ∷ 0 ∷ 1 ∷ 0x6000 ∷ 0x7000 ∷ []) (ok [])
    ∷ answered RealmActivate (0x1000 ∷ []) (ok [])
    ∷ answered RecEnter (0x5000 ∷ []) (ok (0 ∷ []))
    ∷ answered MeasurementExtend (4 ∷ 64 ∷ 1 ∷ 2 ∷ 3 ∷ 4 ∷ 5 ∷ 6 ∷ 7 ∷ 8 ∷ []) (ok [])
    ∷ answered Exit [] (ok (1 ∷ 0 ∷ 0 ∷ 0 ∷ []))
    ∷ []
