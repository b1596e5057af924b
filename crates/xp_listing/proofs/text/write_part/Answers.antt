use Rattle.std.proofs.Common.{ℕ, List, ◌++◌, string_bytes}
use Rattle.xp_base.specs.Memory.{Memory}
use Rattle.xp_listing.specs.Listing.{partition_line, vars_line, records_text, all_flags_text, all_args_text, all_counters_text, entries_text}
use Rattle.xp_listing.proofs.Each.{finally}
use Rattle.xp_listing.proofs.text.write_part.Goals as goal

pub returns : goal.returns
returns c =
    let m : Memory = c.args.words.now in
    let o : ℕ = c.args.owner in
    let new : List ℕ = string_bytes c.write_entries.new.out in
    let entries : List ℕ = entries_text m o in
    let counters : List ℕ = all_counters_text m o ++ entries in
    let args : List ℕ = all_args_text m o ++ counters in
    let flags : List ℕ = all_flags_text m o ++ args in
    let records : List ℕ = records_text m o ++ flags in
    let vars : List ℕ = vars_line m o ++ records in
    finally c.write_entries.result new (string_bytes c.write_partition.new.out)
    (string_bytes c.args.out.now) (partition_line m o) vars c.in_ok-write_partition.ensures
    (finally c.write_entries.result new (string_bytes c.write_vars.new.out)
    (string_bytes c.write_partition.new.out) (vars_line m o) records c.in_ok-write_vars.ensures
    (finally c.write_entries.result new (string_bytes c.write_records.new.out)
    (string_bytes c.write_vars.new.out) (records_text m o) flags c.in_ok-write_records.ensures
    (finally c.write_entries.result new (string_bytes c.write_all_flags.new.out)
    (string_bytes c.write_records.new.out)
    (all_flags_text m o) args c.in_ok-write_all_flags.ensures
    (finally c.write_entries.result new (string_bytes c.write_all_args.new.out)
    (string_bytes c.write_all_flags.new.out)
    (all_args_text m o) counters c.in_ok-write_all_args.ensures
    (finally c.write_entries.result new (string_bytes c.write_all_counters.new.out)
    (string_bytes c.write_all_args.new.out)
    (all_counters_text m o) entries c.in_ok-write_all_counters.ensures
    c.write_entries.ensures)))))
