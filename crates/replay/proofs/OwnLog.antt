-- The log that `exec` writes replays to "all agree": each line of an act is read, since its numbers are small, and is the one due.
-- Assumes nothing.
use Rattle.std.specs.Prelude.{Option, None, Some}
use Prim.Native.Nat.{ℕ, suc, ◌+◌, ◌≤◌, ◌<◌}
use native.Mathlib.Omega.{arith}
use native.Mathlib.Nat.{add-zero, zero-add}
use mathlib.Core.Path.{◌≡◌, refl, sym, ap, ◌∙◌, subst}
use mathlib.Core.Bool.{Bool, true, false, cond, ◌&&◌, ◌||◌}
use mathlib.Core.List.{List, [], ◌∷◌, ◌++◌, map}
use lib.ListN.{length, length-append}
use borrow.Author.Tests.{not-true}
use Rattle.word.specs.Word.{Width}
use Rattle.calls.specs.declared.types.Access.{Access}
use Rattle.calls.specs.Records.{is_free, is_clearing}
use Rattle.calls.specs.Hypervisor.{next_of}
use Rattle.calls.specs.Guest.{is_serving, guest_next}
use Rattle.calls.specs.ClearMask.{guest_due_of}
use Rattle.machine.specs.declared.types.Side.{Side}
use Rattle.machine.specs.declared.types.Side.TheVariants as side
use Rattle.machine.specs.declared.types.Step.TheVariants as step
use Rattle.machine.specs.declared.types.Event.{Event}
use Rattle.machine.specs.Exec.{World, exec, exec_all, perform_side, perform_hypervisor, guest_access, perform_guest, advance_of}
use Rattle.access_log.specs.declared.line.LoggedCall.{LoggedCall}
use Rattle.access_log.specs.declared.line.Line.{Line}
use Rattle.access_log.specs.declared.line.Line.TheVariants as line
use Rattle.access_log.specs.Line.{bytes_of, LegalCall, Legal}
use Rattle.access_log.specs.Event.{access_line, line_of}
use Rattle.access_log.proofs.FieldLaws.{same_self}
use Rattle.access_log.proofs.Agreement.{agree}
use Rattle.claims.specs.Numbers.{All, SmallEvent, SmallWorld, SmallStep}
use Rattle.claims.proofs.Numbers.{numbers_stay_small, runs_stay_small, fresh_is_small}
use Rattle.replay.specs.Replay.{fresh_world, step_of_call, adds, is_full, told, ran, texts_of, due_after, report, Player, playing, is_busy, opens, played, played_all, ends}
use Rattle.replay.specs.Claims.{most_lines, Act, calls, accesses, tell_after, steps_of, after_act, line_then, lines_of_events, lines_of_act, recorded, MayRecord, Recordable, OwnLogAgrees}
use Rattle.replay.proofs.LegalEvents.{LegalLogged, event_legal}
use Rattle.replay.proofs.SoundPlayers.{call_small}
use Rattle.replay.proofs.PlayLaws.{next_line_lem, counted, over, over_append, replay_over}

-- ---- the lines of a step's events: they are due, and they are legal

due_then : (g : Option Line) (texts : List (List ℕ)) (ls : List Line) → texts ≡ map bytes_of ls → texts_of g texts ≡ map bytes_of (line_then g ls)
due_then None texts ls e = e
due_then (Some l) texts ls e = ap (λ (t : List (List ℕ)). bytes_of l ∷ t) e

due_lines : (es : List Event) → due_after es ≡ map bytes_of (lines_of_events es)
unfolding due_after lines_of_events
due_lines [] = refl
due_lines (e ∷ es) = due_then (line_of e) (due_after es) (lines_of_events es) (due_lines es)

legal_then : (g : Option Line) (ls : List Line) → LegalLogged g → All Legal ls → All Legal (line_then g ls)
legal_then None ls h i = i
legal_then (Some l) ls h i = (h, i)

lines_legal : (es : List Event) → All SmallEvent es → All Legal (lines_of_events es)
unfolding lines_of_events
lines_legal [] h = tt
lines_legal (e ∷ es) h = legal_then (line_of e) (lines_of_events es) (event_legal e h.0) (lines_legal es h.1)

-- ---- the lines that are due come

comes : (n : ℕ) (w : World) (l : Line) (ds : List (List ℕ)) (k : ℕ) → Legal l → k < most_lines →
    played n (playing w (bytes_of l ∷ ds) k) (bytes_of l) ≡ playing w ds (k + 1)
unfolding played
comes n w l ds k h i = simp (agree.written_reads l h, same_self (bytes_of l), next_line_lem k i)

regrouped : (k i j both : ℕ) → both ≡ i + j → k + i + j ≡ k + both
regrouped k i j both e = omega arith

all_come : (n : ℕ) (w : World) (ls : List Line) → All Legal ls → (k : ℕ) → k + length ls ≤ most_lines →
    over n (playing w (map bytes_of ls) k) ls ≡ playing w [] (k + length ls)
unfolding played_all
all_come n w [] h k i = simp add-zero
all_come n w (l ∷ ls) h k i =
    ap (λ (p : Player). over n p ls) (comes n w l (map bytes_of ls) k h.0 (omega arith))
    ∙ all_come n w ls h.1 (k + 1) (omega arith)
    ∙ ap (playing w []) (counted k (length ls))

-- ---- an access

-- the first of the lines that a step brings
record FirstAccess (s : Side) (es : List Event) : Type 0 where
  access : Access
  seen : ℕ
  rest : List Line
  lines : lines_of_events es ≡ line.Access s access seen ∷ rest

guest_first : (n : ℕ) (w : World) (clearing : Bool) → is_clearing w.guest.clear.stage ≡ clearing → clearing || is_serving w.guest.call.stage ≡ true →
    FirstAccess side.Guest (exec n w (step.Perform side.Guest)).events
unfolding advance_of perform_side guest_access perform_guest guest_next guest_due_of lines_of_events line_of access_line
guest_first n w true e h = rw (e, e) (record { access = _; seen = _; rest = _; lines = refl })
guest_first n w false e h = rw (e, h, e) (record { access = _; seen = _; rest = _; lines = refl })

first_access_lem : (n : ℕ) (w : World) (s : Side) → is_busy w s ≡ true → FirstAccess s (exec n w (step.Perform s)).events
unfolding advance_of perform_side perform_hypervisor next_of lines_of_events line_of access_line
first_access_lem n w side.Hypervisor h = rw (not-true (is_free w.domain.call.owner) h) (record { access = _; seen = _; rest = _; lines = refl })
first_access_lem n w side.Guest h = guest_first n w (is_clearing w.guest.clear.stage) refl h

-- ---- what is played of an act

-- its lines come, and its world is left
abbrev Agrees : ℕ → World → World → List Line → Type 0
Agrees n w after ls = All Legal ls → (k : ℕ) → k + length ls ≤ most_lines → over n (playing w [] k) ls ≡ playing after [] (k + length ls)

access_opens : (n : ℕ) (w : World) (s : Side) (a : Access) (seen : ℕ) (ds : List (List ℕ)) (k : ℕ) → is_busy w s ≡ true → Legal (line.Access s a seen) →
    due_after (exec n w (step.Perform s)).events ≡ bytes_of (line.Access s a seen) ∷ ds →
    played n (playing w [] k) (bytes_of (line.Access s a seen))
    ≡ played n (playing (exec n w (step.Perform s)).world (bytes_of (line.Access s a seen) ∷ ds) k) (bytes_of (line.Access s a seen))
unfolding played opens
access_opens n w s a seen ds k busy h e = simp (agree.written_reads (line.Access s a seen) h, busy, e)

access_agrees : (n : ℕ) (w : World) (s : Side) (a : Access) (seen : ℕ) (rest : List Line) → is_busy w s ≡ true →
    lines_of_events (exec n w (step.Perform s)).events ≡ line.Access s a seen ∷ rest →
    Agrees n w (exec n w (step.Perform s)).world (line.Access s a seen ∷ rest)
unfolding played_all
access_agrees n w s a seen rest busy e h k i =
    ap (λ (p : Player). over n p rest)
    (access_opens n w s a seen (map bytes_of rest) k busy h.0 (due_lines (exec n w (step.Perform s)).events ∙ ap (map bytes_of) e))
    ∙ all_come n (exec n w (step.Perform s)).world (line.Access s a seen ∷ rest) h k i

ran_world : (n : ℕ) (w : World) (c : LoggedCall) (b : Bool) →
    cond b (told n (exec n w (step_of_call c)).world) (exec n w (step_of_call c)).world
    ≡ (exec_all n w (step_of_call c ∷ cond b (tell_after (exec n w (step_of_call c)).world) [])).world
unfolding exec_all
ran_world n w c true = refl
ran_world n w c false = refl

call_opens : (n : ℕ) (w : World) (c : LoggedCall) (k : ℕ) → LegalCall c → adds n w.domain c && is_full w.domain w.memory.words ≡ false →
    k < most_lines →
    played n (playing w [] k) (bytes_of (line.Call c))
    ≡ playing (after_act n w (calls c)) (map bytes_of (lines_of_events (exec n w (step_of_call c)).events)) (k + 1)
unfolding played opens ran Legal
call_opens n w c k h f i =
    simp (agree.written_reads (line.Call c) h, f, next_line_lem k i, due_lines (exec n w (step_of_call c)).events)
    (ap (λ (x : World). playing x (map bytes_of (lines_of_events (exec n w (step_of_call c)).events)) (k + 1)) (ran_world n w c (adds n w.domain c)))

call_agrees : (n : ℕ) (w : World) (c : LoggedCall) → LegalCall c → adds n w.domain c && is_full w.domain w.memory.words ≡ false →
    All Legal (lines_of_events (exec n w (step_of_call c)).events) → (k : ℕ) → k + length (lines_of_act n w (calls c)) ≤ most_lines →
    over n (playing w [] k) (lines_of_act n w (calls c)) ≡ playing (after_act n w (calls c)) [] (k + length (lines_of_act n w (calls c)))
unfolding played_all
call_agrees n w c h f g k i =
    let ls = lines_of_events (exec n w (step_of_call c)).events in
    ap (λ (p : Player). over n p ls) (call_opens n w c k h f (omega arith))
    ∙ all_come n (after_act n w (calls c)) ls g (k + 1) (omega arith)
    ∙ ap (playing (after_act n w (calls c)) []) (counted k (length ls))

tell_small : (w : World) (b : Bool) → All SmallStep (cond b (tell_after w) [])
tell_small w true = (tt, tt)
tell_small w false = tt

steps_small : (n : ℕ) (w : World) (a : Act) → All SmallStep (steps_of n w a)
steps_small n w (calls c) = (call_small c, tell_small (exec n w (step_of_call c)).world (adds n w.domain c))
steps_small n w (accesses s) = (tt, tt)

module _ (n : ℕ) (wide : Width n) where
  act_agrees : (w : World) → SmallWorld w → (a : Act) → MayRecord n w a → (k : ℕ) → k + length (lines_of_act n w a) ≤ most_lines →
      over n (playing w [] k) (lines_of_act n w a) ≡ playing (after_act n w a) [] (k + length (lines_of_act n w a))
  unfolding exec_all
  act_agrees w small (calls c) may k i =
      call_agrees n w c may.0 may.1
      (lines_legal _ (numbers_stay_small n wide w (step_of_call c) small (call_small c)).events) k i
  act_agrees w small (accesses s) may k i =
      let f = first_access_lem n w s may in
      subst (Agrees n w (exec n w (step.Perform s)).world) (sym f.lines) (access_agrees n w s f.access f.seen f.rest may f.lines)
      (lines_legal _ (numbers_stay_small n wide w (step.Perform s) small tt).events) k i

  acts_agree : (w : World) → SmallWorld w → (acts : List Act) → Recordable n w acts → (k : ℕ) → k + length (recorded n w acts) ≤ most_lines →
      ends (over n (playing w [] k) (recorded n w acts)) ≡ report 0 (k + length (recorded n w acts))
  unfolding recorded Recordable played_all ends
  acts_agree w small [] may k i = simp add-zero
  acts_agree w small (a ∷ acts) may k i =
      let ls = lines_of_act n w a in
      let ms = recorded n (after_act n w a) acts in
      let both = length-append ls ms in
      ap ends (over_append n (playing w [] k) ls ms)
      ∙ ap (λ (p : Player). ends (over n p ms)) (act_agrees w small a may.0 k (omega arith))
      ∙ acts_agree (after_act n w a) (runs_stay_small n wide w (steps_of n w a) small (steps_small n w a)).world acts may.1 (k + length ls) (omega arith)
      ∙ ap (report 0) (regrouped k (length ls) (length ms) (length (ls ++ ms)) both)

pub own_log_agrees : OwnLogAgrees
unfolding played_all fresh_world Legal
own_log_agrees n wide entries words acts may i =
    let ls = recorded n (fresh_world entries words) acts in
    replay_over n entries words (line.Header ∷ ls)
    ∙ ap (λ (p : Player). ends (over n p ls)) (comes n (fresh_world entries words) line.Header [] 0 tt (omega arith))
    ∙ acts_agree n wide (fresh_world entries words) (fresh_is_small _ words) acts may 1 (omega arith)
    ∙ ap (report 0) (counted 0 (length ls) ∙ zero-add (suc (length ls)))
