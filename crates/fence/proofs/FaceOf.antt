-- The face of a domain: all that cables can tell of it, how a step moves it, and what can be read off it. n is the number of link bits.
-- Assumes nothing.
use Prim.Native.Nat.{ℕ}
use mathlib.Core.Bool.{Bool, true, false, cond, not}
use mathlib.Core.List.{List, map}
use lib.ListN.{length, get_or, set}
use lib.Dec.{ltb}
use Rattle.word.specs.Entry.{bound}
use Rattle.calls.specs.declared.types.Owner.{Owner}
use Rattle.calls.specs.declared.types.Owner.TheVariants as owner
use Rattle.calls.specs.declared.types.Call.{Call}
use Rattle.calls.specs.declared.types.Domain.{Domain}
use Rattle.calls.specs.Records.{one_more, is_port, in_array}
use Rattle.calls.specs.Hypervisor.{Turn}
use Rattle.machine.specs.declared.types.Start.{Start}
use Rattle.machine.specs.declared.types.Start.TheVariants.{InitControl, ExpandArray, Bind, Close, SetPriority, Raise, Unmask}
use Rattle.machine.specs.declared.types.Event.{Event}
use Rattle.machine.specs.Exec.{World, hypervisor_answer}
use Rattle.interleaving.specs.Lengths.{is_first}
use Rattle.fence.specs.Fence.{Kind, Starts, Replies, GuestDoes}

-- a bind or a close that waits for its reply; all else is quiet
pub data UnderWay : Type 0 where
  quiet : UnderWay
  binds closes : ℕ → UnderWay

pub record Face : Type 0 where
  pub given : Bool
  pub pages : ℕ
  pub bounds : List Bool
  pub under_way : UnderWay

abbrev pub first_by : Owner → ℕ → UnderWay
first_by owner.None p = quiet
first_by owner.Bind p = binds p
first_by owner.Close p = closes p
first_by owner.Raise p = quiet
first_by owner.Unmask p = quiet

-- only a call at its first stage tells: at a later one the owner is a raise or an unmask, or the record is junk
abbrev pub under_way_of : Call → UnderWay
under_way_of c = cond (is_first c.stage) (first_by c.owner c.port.0) quiet

abbrev pub face_of : Domain → List ℕ → Face
face_of d ledger = record { given = d.given; pages = d.pages; bounds = map bound ledger; under_way = under_way_of d.call }

abbrev pub face : World → Face
face w = face_of w.domain w.ledger

-- of what a call or a reply comes to
abbrev pub face_after : Turn → Face
face_after t = face_of t.outcome.domain t.ledger

abbrev pub answer_of : Turn → Event
answer_of t = hypervisor_answer t.outcome.next

-- ---- how a step moves it

abbrev pub with_under_way : Face → UnderWay → Face
with_under_way f u = record { given = f.given; pages = f.pages; bounds = f.bounds; under_way = u }

abbrev pub with_bound : Face → ℕ → Bool → Face
with_bound f p b = record { given = f.given; pages = f.pages; bounds = set f.bounds p b; under_way = f.under_way }

-- a start that is not refused
abbrev pub begun : Face → Start → Face
begun f (InitControl vcpu frame frames offset) = record { given = true; pages = f.pages; bounds = f.bounds; under_way = f.under_way }
begun f (ExpandArray frame frames) = record { given = f.given; pages = one_more f.pages; bounds = f.bounds; under_way = f.under_way }
begun f (Bind p) = cond (in_array f.pages p.0) (with_under_way f (binds p.0)) (with_bound f p.0 true)
begun f (Close p) = cond (in_array f.pages p.0) (with_under_way f (closes p.0)) (with_bound f p.0 false)
begun f (SetPriority p level) = f
begun f (Raise p) = f
begun f (Unmask p) = f

-- a reply: where the ledger has no entry (14), the call stays under way
abbrev pub replied : UnderWay → Face → Bool → Face
replied quiet f seven = f
replied (binds p) f seven =
    cond (ltb p (length f.bounds)) (cond seven (with_under_way f quiet) (with_under_way (with_bound f p true) quiet)) f
replied (closes p) f seven = cond (ltb p (length f.bounds)) (with_under_way (with_bound f p false) quiet) f

abbrev pub moved : Face → Kind → Bool → Face
moved f (Starts c) refused = cond refused f (begun f c)
moved f Replies refused = replied f.under_way f refused
moved f GuestDoes refused = f

-- ---- what is read off it

-- a port's own refusal
abbrev pub refusal_of : ℕ → Face → ℕ → ℕ
refusal_of n f p =
    cond (not f.given) 10
    (cond (not (is_port n p)) 3
    (cond (ltb p (length f.bounds)) (cond (get_or f.bounds p false) 0 4) 14))

-- the port whose close falls in a step; 0: none
abbrev pub start_falls : Face → Start → ℕ
start_falls f (InitControl vcpu frame frames offset) = 0
start_falls f (ExpandArray frame frames) = 0
start_falls f (Bind p) = 0
start_falls f (Close p) = cond (in_array f.pages p.0) 0 p.0
start_falls f (SetPriority p level) = 0
start_falls f (Raise p) = 0
start_falls f (Unmask p) = 0

abbrev pub reply_falls : UnderWay → Face → ℕ
reply_falls quiet f = 0
reply_falls (binds p) f = 0
reply_falls (closes p) f = cond (ltb p (length f.bounds)) p 0

abbrev pub falls_of : Face → Kind → Bool → ℕ
falls_of f (Starts c) refused = cond refused 0 (start_falls f c)
falls_of f Replies refused = reply_falls f.under_way f
falls_of f GuestDoes refused = 0
