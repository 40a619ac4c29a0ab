-- What an accepted write is (document 01, 'The pages', 'The launch hash' and, for the order, 'The waiting book': "An accepted write, first
-- that applies"). Assumes nothing.
use Rattle.std.specs.Prelude.{ℕ, Bool, cond, ◌&&◌, ◌||◌, eqb, Option}
use Rattle.reg_layout.specs.Offsets.{in_four, page_of, place_of, access, hash_locality, hash_start, hash_end, hash_data}
use Rattle.arbiter.specs.State.{locality, holds}
use Rattle.arbiter.specs.Rules.{start_counts}
use Rattle.arbiter.specs.declared.Locality.{Locality}
use Rattle.reg_map.specs.Map.{register_for}
use Rattle.bus_resolve.specs.declared.WriteKind.{WriteKind}
use Rattle.bus_resolve.specs.declared.WriteKind.TheVariants.{HashStart, HashEnd, HashData, Ignored, Ordinary}

-- "Offset / 1000h is the locality"
abbrev pub page_at : ℕ → Locality
page_at o = locality (page_of o)

-- may a locality write in its page there: ACCESS is everybody's; "STS and FIFO .. ignore writes for any locality that isn't active", and of
-- interrupt enable and status "Only the active locality writes". The registers that ignore all writes do so for the active one too
abbrev pub may_write : ℕ → Option Locality → Bool
may_write o owner = eqb (place_of o) access || holds owner (page_at o)

-- "Start counts if the device is free or 4 is active, else it is ignored". "With no sequence open, end is ignored. While one is open, every
-- write in page 4 other than start, data and end is ignored".
unfoldable pub resolve : ℕ → Bool → Option Locality → WriteKind
resolve o sequence owner =
    cond (in_four hash_start o) (cond (start_counts owner) HashStart Ignored)
    (cond (in_four hash_end o) (cond sequence HashEnd Ignored)
    (cond (sequence && eqb (page_of o) hash_locality) (cond (in_four hash_data o) HashData Ignored)
    (cond (may_write o owner) (Ordinary (register_for o))
    Ignored)))
