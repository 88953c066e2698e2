-- T-02: a recorded log played over fresh lent pages of one domain of 1,024 frames, a fresh lent ledger and a zeroed control block:
-- every access, word seen and answer is compared with what the machine's own `exec` does. n is the number of link bits.
-- Assumes nothing.
use Rattle.std.specs.Prelude.{ℕ, ◌+◌, ◌*◌, Bool, false, cond, not, ◌&&◌, ◌||◌, List, [], ◌∷◌, length, replicate, eqb, ltb, Option, None, Some}
use Rattle.word.specs.Entry.{fresh_entry}
use Rattle.calls.specs.declared.types.Domain.{Domain}
use Rattle.calls.specs.Records.{is_free, is_clearing, fresh_domain, fresh_guest}
use Rattle.calls.specs.Hypervisor.{expand_array}
use Rattle.calls.specs.Guest.{is_serving}
use Rattle.machine.specs.declared.types.Side.{Side}
use Rattle.machine.specs.declared.types.Side.TheVariants as side
use Rattle.machine.specs.declared.types.Start.TheVariants as start
use Rattle.machine.specs.declared.types.GuestStart.TheVariants as guest_start
use Rattle.machine.specs.declared.types.Step.{Step}
use Rattle.machine.specs.declared.types.Step.TheVariants as step
use Rattle.machine.specs.declared.types.Event.{Event}
use Rattle.machine.specs.Memory.{memory}
use Rattle.machine.specs.Exec.{World, Stepped, exec}
use Rattle.access_log.specs.declared.line.LoggedCall.{LoggedCall}
use Rattle.access_log.specs.declared.line.LoggedCall.TheVariants.{InitControl, ExpandArray, Bind, Close, SetPriority, Raise, Unmask, Service, Mask, ClearMask}
use Rattle.access_log.specs.declared.line.Line.{Line}
use Rattle.access_log.specs.declared.line.Line.TheVariants as line
use Rattle.access_log.specs.Line.{newline, bytes_of}
use Rattle.access_log.specs.Event.{line_of}
use Rattle.access_log.specs.Text.{same}
use Rattle.access_log.specs.Read.{read_line}
use Rattle.replay.specs.declared.player.Report.{Report}

-- ---- the world that is played on

unfoldable pub fresh_world : ℕ → ℕ → World
fresh_world entries words = record {
  domain = fresh_domain;
  ledger = replicate entries fresh_entry;
  guest = fresh_guest;
  memory = memory (replicate words 0) (replicate 18 0);
}

-- ---- a call line: its call runs

abbrev pub frames : ℕ
frames = 1024

unfoldable pub step_of_call : LoggedCall → Step
step_of_call (InitControl vcpu frame offset) = step.Hypervisor (start.InitControl vcpu frame frames offset)
step_of_call (ExpandArray frame) = step.Hypervisor (start.ExpandArray frame frames)
step_of_call (Bind port) = step.Hypervisor (start.Bind port)
step_of_call (Close port) = step.Hypervisor (start.Close port)
step_of_call (SetPriority port priority) = step.Hypervisor (start.SetPriority port priority)
step_of_call (Raise port) = step.Hypervisor (start.Raise port)
step_of_call (Unmask port) = step.Hypervisor (start.Unmask port)
step_of_call Service = step.Guest guest_start.Service
step_of_call (Mask port) = step.Guest (guest_start.Mask port)
step_of_call (ClearMask port) = step.Guest (guest_start.ClearMask port)

-- an expand that adds a page
unfoldable pub adds : ℕ → Domain → LoggedCall → Bool
adds n d (InitControl vcpu frame offset) = false
adds n d (ExpandArray frame) = ltb d.pages (expand_array n d frame frames).domain.pages
adds n d (Bind port) = false
adds n d (Close port) = false
adds n d (SetPriority port priority) = false
adds n d (Raise port) = false
adds n d (Unmask port) = false
adds n d Service = false
adds n d (Mask port) = false
adds n d (ClearMask port) = false

-- no page more is lent
abbrev pub is_full : Domain → List ℕ → Bool
is_full d words = ltb (length words) (1024 * (d.pages + 1))

-- her number of words follows an expand that adds a page
abbrev pub told : ℕ → World → World
told n w = (exec n w (step.Guest (guest_start.Tell (1024 * w.domain.pages)))).world

unfoldable pub ran : ℕ → World → LoggedCall → Stepped
ran n w c = record {
  world = cond (adds n w.domain c) (told n (exec n w (step_of_call c)).world) (exec n w (step_of_call c)).world;
  events = (exec n w (step_of_call c)).events;
}

-- ---- the lines that a step brings

abbrev pub texts_of : Option Line → List (List ℕ) → List (List ℕ)
texts_of None texts = texts
texts_of (Some l) texts = bytes_of l ∷ texts

unfoldable pub due_after : List Event → List (List ℕ)
due_after [] = []
due_after (e ∷ es) = texts_of (line_of e) (due_after es)

-- ---- the report

-- 0: all agree, with the number of lines; else a line's number: 1, it differs; 22, it is not of the form; 33, its expand would add
-- a page past those lent
abbrev pub report : ℕ → ℕ → Report
report kind number = record { kind = kind; line = number }

-- a number that can't move further stays
unfoldable pub next_line : ℕ → ℕ
next_line k = cond (ltb k 0xFFFFFFFFFFFFFFFF) (k + 1) k

-- ---- play

-- the world, the lines that are due, and the number of lines that agreed; or the report, with the line that was due where one
-- differs (empty, where nothing was)
pub data Player : Type 0 where
  playing : World → List (List ℕ) → ℕ → Player
  stopped : Report → List ℕ → Player

-- a line of the form where the lines `due` must come next
abbrev pub meets : World → List (List ℕ) → ℕ → List ℕ → Player
meets w [] k text = stopped (report 1 (next_line k)) []
meets w (d ∷ ds) k text = cond (same d text) (playing w ds (next_line k)) (stopped (report 1 (next_line k)) d)

-- a side with a call under way: of the guest, a clear_mask or a service
abbrev pub is_busy : World → Side → Bool
is_busy w side.Hypervisor = not (is_free w.domain.call.owner)
is_busy w side.Guest = is_clearing w.guest.clear.stage || is_serving w.guest.call.stage

-- the access of that side's call under way is made; where there is none, nothing is due
abbrev pub makes : ℕ → World → ℕ → Side → List ℕ → Player
makes n w k s text =
    cond (is_busy w s) (meets (exec n w (step.Perform s)).world (due_after (exec n w (step.Perform s)).events) k text)
    (meets w [] k text)

abbrev pub begins : ℕ → World → ℕ → LoggedCall → Player
begins n w k c =
    cond (adds n w.domain c && is_full w.domain w.memory.words) (stopped (report 33 (next_line k)) [])
    (playing (ran n w c).world (due_after (ran n w c).events) (next_line k))

-- a line of the form where nothing is due
unfoldable pub opens : ℕ → World → ℕ → List ℕ → Line → Player
opens n w k text line.Header = meets w [] k text
opens n w k text (line.Access s a seen) = makes n w k s text
opens n w k text (line.Answer s number) = meets w [] k text
opens n w k text (line.PortAnswer s number port) = meets w [] k text
opens n w k text (line.Call c) = begins n w k c

abbrev pub moves : ℕ → World → List (List ℕ) → ℕ → List ℕ → Line → Player
moves n w [] k text l = opens n w k text l
moves n w (d ∷ ds) k text l = meets w (d ∷ ds) k text

abbrev pub judges : ℕ → World → List (List ℕ) → ℕ → List ℕ → Option Line → Player
judges n w due k text (Some l) = moves n w due k text l
judges n w due k text None = stopped (report 22 (next_line k)) []

-- the next line of the log
unfoldable pub played : ℕ → Player → List ℕ → Player
played n (playing w due k) text = judges n w due k text (read_line text)
played n (stopped r d) text = stopped r d

unfoldable pub played_all : ℕ → Player → List (List ℕ) → Player
played_all n p [] = p
played_all n p (text ∷ texts) = played_all n (played n p text) texts

-- ---- the whole log

-- each line with its newline; what follows the last newline is a line too
abbrev joined : ℕ → List (List ℕ) → List (List ℕ)
joined b [] = (b ∷ []) ∷ []
joined b (text ∷ texts) = (b ∷ text) ∷ texts

unfoldable pub lines_of : List ℕ → List (List ℕ)
lines_of [] = []
lines_of (b ∷ bytes) = cond (eqb b newline) ((b ∷ []) ∷ lines_of bytes) (joined b (lines_of bytes))

-- the header is due first
abbrev pub starts : ℕ → ℕ → Player
starts entries words = playing (fresh_world entries words) (bytes_of line.Header ∷ []) 0

-- something still due differs as the line after the last
unfoldable pub ends : Player → Report
ends (playing w [] k) = report 0 k
ends (playing w (d ∷ ds) k) = report 1 (next_line k)
ends (stopped r d) = r

-- a log, a ledger of so many entries, so many words lent
abbrev pub replay : ℕ → ℕ → ℕ → List ℕ → Report
replay n entries words log = ends (played_all n (starts entries words) (lines_of log))
