-- `replay::player::lent::Lent::begin` meets its contract. Assumes nothing.
use Rattle.replay.proofs.CallLaws.{as_legal, as_begins}
use Rattle.replay.proofs.StepLaws.{service_began, clear_began}
use Rattle.replay.proofs.AccessLaws.{started_begins}
use Rattle.access_log.specs.declared.line.LoggedCall.TheVariants as call
use Rattle.replay.specs.Replay.{step_of_call, adds}
use Rattle.machine.specs.declared.types.Start.TheVariants as start
use mathlib.Core.Path.{refl}
use Rattle.replay.proofs.player.lent.Lent.begin.Goals as goal

pub returns-in-ExpandArray-clause-begun : goal.returns-in-ExpandArray-clause-begun
returns-in-ExpandArray-clause-begun c = λ k. as_begins _ k c.in-ExpandArray.is (c.expand.ensures.begun k)

pub returns-in-Mask-clause-begun : goal.returns-in-Mask-clause-begun
returns-in-Mask-clause-begun c = λ k. as_begins _ k c.in-Mask.is (c.mask.ensures.begun k)

pub returns-in-Service-clause-begun : goal.returns-in-Service-clause-begun
returns-in-Service-clause-begun c = λ k. as_begins _ k c.in-Service.is (service_began _ _ _ _ _ c.args.self.now.domain_long c.args.self.now.guest_long _ _ k _ _ c.evtchn_fifo_bytes_service-next.ensures c.put_answer.ensures)

pub returns-in-ClearMask-clause-begun : goal.returns-in-ClearMask-clause-begun
returns-in-ClearMask-clause-begun c = λ k. as_begins _ k c.in-ClearMask.is (clear_began _ _ _ _ _ c.args.self.now.domain_long c.args.self.now.guest_long _ (as_legal c.in-ClearMask.is c.requires) _ _ k _ _ c.evtchn_fifo_bytes_clear_mask-next.ensures c.put_answer-in-ClearMask.ensures)

pub returns-in-InitControl-clause-begun : goal.returns-in-InitControl-clause-begun
unfolding step_of_call adds
returns-in-InitControl-clause-begun c = λ k. as_begins _ k c.in-InitControl.is (started_begins c.args.self.now k (call.InitControl _ _ _) (start.InitControl _ _ _ _) _ _ (as_legal c.in-InitControl.is c.requires) refl refl refl c.start.ensures.started)

pub returns-in-Bind-clause-begun : goal.returns-in-Bind-clause-begun
unfolding step_of_call adds
returns-in-Bind-clause-begun c = λ k. as_begins _ k c.in-Bind.is (started_begins c.args.self.now k (call.Bind _) (start.Bind _) _ _ (as_legal c.in-Bind.is c.requires) refl refl refl c.start-in-Bind.ensures.started)

pub returns-in-Close-clause-begun : goal.returns-in-Close-clause-begun
unfolding step_of_call adds
returns-in-Close-clause-begun c = λ k. as_begins _ k c.in-Close.is (started_begins c.args.self.now k (call.Close _) (start.Close _) _ _ (as_legal c.in-Close.is c.requires) refl refl refl c.start-in-Close.ensures.started)

pub returns-in-SetPriority-clause-begun : goal.returns-in-SetPriority-clause-begun
unfolding step_of_call adds
returns-in-SetPriority-clause-begun c = λ k. as_begins _ k c.in-SetPriority.is (started_begins c.args.self.now k (call.SetPriority _ _) (start.SetPriority _ _) _ _ (as_legal c.in-SetPriority.is c.requires) refl refl refl c.start-in-SetPriority.ensures.started)

pub returns-in-Raise-clause-begun : goal.returns-in-Raise-clause-begun
unfolding step_of_call adds
returns-in-Raise-clause-begun c = λ k. as_begins _ k c.in-Raise.is (started_begins c.args.self.now k (call.Raise _) (start.Raise _) _ _ (as_legal c.in-Raise.is c.requires) refl refl refl c.start-in-Raise.ensures.started)

pub returns-in-Unmask-clause-begun : goal.returns-in-Unmask-clause-begun
unfolding step_of_call adds
returns-in-Unmask-clause-begun c = λ k. as_begins _ k c.in-Unmask.is (started_begins c.args.self.now k (call.Unmask _) (start.Unmask _) _ _ (as_legal c.in-Unmask.is c.requires) refl refl refl c.start-in-Unmask.ensures.started)
