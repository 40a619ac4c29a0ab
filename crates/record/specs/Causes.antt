-- One flag for each interrupt, and what two such sets have together (document 01, 'Interrupts'; TIS 12). Assumes nothing.
use Rattle.std.specs.Prelude.{Bool, not, ◌&&◌, ◌||◌}
use Rattle.record.specs.declared.Causes.{Causes}

-- the flags of k that l does not have; those of either; is there one that both have
abbrev pub without : Causes → Causes → Causes
without k l =
    record {
      command_ready = k.command_ready && not l.command_ready;
      locality_change = k.locality_change && not l.locality_change;
      data_avail = k.data_avail && not l.data_avail;
    }

abbrev pub either : Causes → Causes → Causes
either k l =
    record {
      command_ready = k.command_ready || l.command_ready;
      locality_change = k.locality_change || l.locality_change;
      data_avail = k.data_avail || l.data_avail;
    }

abbrev pub share : Causes → Causes → Bool
share k l = k.command_ready && l.command_ready || k.locality_change && l.locality_change || k.data_avail && l.data_avail
