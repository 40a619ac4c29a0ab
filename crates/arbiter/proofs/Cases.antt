-- What a write to ACCESS can come to. Assumes nothing.
use mathlib.Core.Path.{◌≡◌, refl}
use mathlib.Core.Bool.{Bool, true, false, cond}
use Prim.Native.Nat.{ℕ}
use lib.Dec.{eqb, ltb}
use Rattle.arbiter.specs.declared.Locality.{Locality}
use Rattle.std.specs.Prelude.{Option, Some, None}
use Rattle.arbiter.specs.declared.Arbiter.{Arbiter}
use Rattle.arbiter.specs.declared.Change.{Change}
use Rattle.arbiter.specs.declared.access.AccessCommand.{AccessCommand}
use Rattle.arbiter.specs.declared.access.AccessCommand.TheVariants.{RequestUse, ActiveLocality, Seize, BeenSeized}
use Rattle.arbiter.specs.State.{with_waiting, with_seized, waits, holds}
use Rattle.arbiter.specs.Rules.{keeps_command, aborts_command, next_owner, serve, hand_to, handover, access_command, request_from, request, release, seize_from, seize, clear_seized, commanded, write_access}

pub data AccessCase (s : Arbiter) (x : Locality) (c : Change) : Type 0 where
  -- a handover or a seizure: the owner's command is aborted
  aborts : c.abort ≡ true → AccessCase s x c
  -- the owner stays, or nobody was and is
  stays : c.abort ≡ false → c.arbiter.active ≡ s.active → AccessCase s x c
  -- the device was free and is x's
  takes : c.abort ≡ false → s.active ≡ None → c.arbiter.active ≡ Some x → AccessCase s x c

pub handover_aborts : (s : Arbiter) → (handover s).abort ≡ true
unfolding handover
handover_aborts s = by (next_owner s.waiting)
  where
    by : (o : Option Locality) → (hand_to o s).abort ≡ true
    by None = refl
    by (Some y) = refl

module _ (s : Arbiter) (x : Locality) where
  request_case : AccessCase s x (request s x)
  unfolding request
  request_case = by s.active refl
    where
      by : (o : Option Locality) → s.active ≡ o → AccessCase s x (request_from o s x)
      by None e = takes refl e refl
      by (Some y) e = on (eqb y.0 x.0)
        where
          on : (t : Bool) → AccessCase s x (cond t (keeps_command s) (keeps_command (with_waiting s x.0 true)))
          on true = stays refl refl
          on false = stays refl refl

  release_case : AccessCase s x (release s x)
  unfolding release
  release_case = by (holds s.active x) (waits s x.0)
    where
      by : (t u : Bool) → AccessCase s x (cond t (handover s) (cond u (keeps_command (with_waiting s x.0 false)) (keeps_command s)))
      by true u = aborts (handover_aborts s)
      by false true = stays refl refl
      by false false = stays refl refl

  seize_case : AccessCase s x (seize s x)
  unfolding seize
  seize_case = by s.active refl
    where
      by : (o : Option Locality) → s.active ≡ o → AccessCase s x (seize_from o s x)
      by None e = takes refl e refl
      by (Some y) e = on (ltb y.0 x.0)
        where
          on : (t : Bool) → AccessCase s x (cond t (aborts_command (with_seized (serve s x) y.0 true)) (keeps_command s))
          on true = aborts refl
          on false = stays refl refl

  pub access_case : (v : ℕ) → AccessCase s x (write_access s x v)
  unfolding write_access clear_seized
  access_case v = by (access_command v)
    where
      by : (k : Option AccessCommand) → AccessCase s x (commanded k s x)
      by None = stays refl refl
      by (Some RequestUse) = request_case
      by (Some ActiveLocality) = release_case
      by (Some Seize) = seize_case
      by (Some BeenSeized) = stays refl refl
