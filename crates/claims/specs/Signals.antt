-- Marks and interrupts over lists of calls (document 01, 'Who holds the device', 'Interrupts'): a third book, kept from C, the calls, their
-- refusal numbers, the waiting book and the mailbox alone. Its numerals are the paper's. Assumes nothing.
use Rattle.std.specs.Prelude.{ℕ, ◌%◌, ◌≡◌, Bool, true, false, cond, not, ◌&&◌, ◌||◌, List, [], ◌∷◌, length, get_or, eqb, leb, ltb}
use Rattle.bits.specs.Bits.{is_set}
use Rattle.record.specs.declared.Causes.{Causes}
use Rattle.record.specs.declared.Interrupts.{Interrupts}
use Rattle.arbiter_model.specs.Model.{Model, Holder, free, held, Event, restart, hash_start, hash_end, access, nothing, AccessBit, request_use, active_locality, seize, been_seized, write_event, nobody, put, highest, ignores_page, step, fresh}
use Rattle.arbiter_model.specs.Waits.{hands_over}
use Rattle.claims.specs.Calls.{Call, interrupt_line, State, flag, Answer, called, StartsAccepted, OverLists}
use Rattle.claims.specs.Events.{Entry, powered_on, restarted, written, read_at, answered, none, entry_of, event_for}
use Rattle.claims.specs.Launch.{establishes}
use Rattle.claims.specs.Mailbox.{Mailbox, idle, ready, receiving, executing, answering, Mail, mail, size_of, by_active, mail_step}
use Rattle.claims.specs.Answers.{readies, goes}

-- ---- what it holds

pub record Signals : Type 0 where
  -- who was seized
  pub seized : ℕ → Bool
  -- enable with its global bit, and status
  pub interrupts : Interrupts
  pub established : Bool

abbrev pub signals : (ℕ → Bool) → Interrupts → Bool → Signals
signals w i e = record { seized = w; interrupts = i; established = e }

abbrev pub no_cause : Causes
no_cause = record { command_ready = false; locality_change = false; data_avail = false }

-- "nobody waits or was seized, .. interrupt enable and status 0"
abbrev pub quiet : Bool → Signals
quiet established = signals nobody (record { global = false; enable = no_cause; status = no_cause }) established

-- ---- the seized marks

-- "Bit 3 ..: active y below x, y is marked seized". "Bit 4 clears x's seized mark."
abbrev pub marked_by : AccessBit → Holder → ℕ → (ℕ → Bool) → ℕ → Bool
marked_by request_use h x w = w
marked_by active_locality h x w = w
marked_by seize free x w = w
marked_by seize (held y) x w = cond (ltb y x) (put w y true) w
marked_by been_seized h x w = put w x false

abbrev pub marked : Model → Event → (ℕ → Bool) → ℕ → Bool
marked m restart w = nobody
marked m hash_start w = w
marked m hash_end w = w
marked m (access x a) w = cond (ignores_page m x) w (marked_by a m.active x w)
marked m nothing w = w

-- ---- the three status flags

-- "the highest waiting locality becomes active .., and localityChange status is set; with nobody waiting .. that status stays"
abbrev pub is_somebody : Holder → Bool
is_somebody free = false
is_somebody (held y) = true

-- "Idle goes to Ready (commandReady status set)"
abbrev pub is_idle : Mailbox → Bool
is_idle idle = true
is_idle ready = false
is_idle (receiving bs) = false
is_idle (executing bs) = false
is_idle (answering a k) = false

-- does a command that may go have a size that runs
abbrev pub size_runs : ℕ → Mailbox → Bool
size_runs c idle = false
size_runs c ready = false
size_runs c (receiving bs) = leb 10 (size_of bs) && leb (size_of bs) c
size_runs c (executing bs) = false
size_runs c (answering a k) = false

-- what an accepted write sets: "Entering Completion .. sets dataAvail status"
abbrev pub raised_by : ℕ → Model → Mailbox → ℕ → ℕ → Causes
raised_by c m b o v =
    record {
      command_ready = readies m o v && is_idle b;
      locality_change = hands_over m (write_event o v) && is_somebody (highest m.waiting);
      data_avail = goes c m b o v && not (size_runs c b);
    }

abbrev pub data_avail : Causes
data_avail = record { command_ready = false; locality_change = false; data_avail = true }

abbrev pub raise : Interrupts → Causes → Interrupts
raise i k =
    record {
      global = i.global;
      enable = i.enable;
      status =
          record {
            command_ready = i.status.command_ready || k.command_ready;
            locality_change = i.status.locality_change || k.locality_change;
            data_avail = i.status.data_avail || k.data_avail;
          };
    }

-- ---- the interrupt registers: "0008..000B INT_ENABLE; .. 0010..0013 INT_STATUS"; "Bits 7 commandReady, 2 localityChange, 0 dataAvail; enable bit
-- 31 is global." "Only the active locality writes: enable stores those bits, status clears where 1 is written."

abbrev pub enabled : Interrupts → ℕ → Interrupts
enabled i v =
    record {
      global = i.global;
      enable = record { command_ready = is_set 7 v; locality_change = is_set 2 v; data_avail = is_set 0 v };
      status = i.status;
    }

abbrev pub enabled_globally : Interrupts → ℕ → Interrupts
enabled_globally i v = record { global = is_set 7 v; enable = i.enable; status = i.status }

abbrev pub cleared_by : Interrupts → ℕ → Interrupts
cleared_by i v =
    record {
      global = i.global;
      enable = i.enable;
      status =
          record {
            command_ready = i.status.command_ready && not (is_set 7 v);
            locality_change = i.status.locality_change && not (is_set 2 v);
            data_avail = i.status.data_avail && not (is_set 0 v);
          };
    }

abbrev pub interrupts_written : ℕ → Model → Mailbox → Interrupts → ℕ → ℕ → Interrupts
interrupts_written c m b i o v =
    cond (by_active m o && eqb (o % 0x1000) 0x08) (enabled i v)
    (cond (by_active m o && eqb (o % 0x1000) 0x0b) (enabled_globally i v)
    (cond (by_active m o && eqb (o % 0x1000) 0x10) (cleared_by i v)
    (raise i (raised_by c m b o v))))

-- ---- what a call does to it

abbrev pub signals_step : ℕ → Model → Mail → Signals → Entry → Signals
signals_step c m p g (powered_on established identity) = quiet established
signals_step c m p g restarted = quiet g.established
signals_step c m p g (written o v) =
    signals (marked m (write_event o v) g.seized) (interrupts_written c m p.box g.interrupts o v) (g.established || establishes m (write_event o v))
signals_step c m p g (read_at o) = g
signals_step c m p g (answered a) = signals g.seized (raise g.interrupts data_avail) g.established
signals_step c m p g none = g

unfoldable pub signals_from : ℕ → Model → Mail → Signals → List (Call × Answer) → Signals
signals_from c m p g [] = g
signals_from c m p g (k ∷ ks) =
    let e : Entry = entry_of k.0 k.1.refusal in
    signals_from c (step m (event_for e)) (mail_step c m p e) (signals_step c m p g e) ks

abbrev pub signals_after : ℕ → List (Call × Answer) → Signals
signals_after c h = signals_from c fresh (mail idle 0) (quiet false) h

-- ---- the claim

-- "The line is asserted exactly when the global bit is set and status and enable share one of the three"
abbrev pub line_of : Interrupts → Bool
line_of i =
    i.global
    && (i.enable.command_ready && i.status.command_ready
    || i.enable.locality_change && i.status.locality_change
    || i.enable.data_avail && i.status.data_avail)

pub record Signalled (g : Signals) (s : State) : Type 0 where
  pub seized : (y : ℕ) → get_or s.device.control.arbiter.seized y false ≡ g.seized y
  pub interrupts : s.device.control.interrupts ≡ g.interrupts
  pub established : s.device.control.established ≡ g.established
  pub line : (called interrupt_line s).answer ≡ record { refusal = 0; value = flag (line_of g.interrupts) }

abbrev pub SignalledAfter : State → List (Call × Answer) → State → Type 0
SignalledAfter s₀ h s = StartsAccepted h → Signalled (signals_after (length s₀.write_fifo) h) s

-- after every list of calls that starts with an accepted power-on; `Progress` says when one is
abbrev pub SignalsClaim : Type 0
SignalsClaim = OverLists SignalledAfter
