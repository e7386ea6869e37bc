-- `admit::page` meets its contract. Assumes nothing.
use Rattle.std.proofs.Common.{arith}
use Rattle.std.proofs.lemmas.Bool.Decides.{nat_tests}
use Rattle.admit.proofs.Steps.{stuck_is, paged_is, no_free_run, no_inner, no_run, is_free, is_inner_lem, is_class, is_large}
use Rattle.admit.proofs.page.Goals as goal
use Rattle.admit.proofs.page.Goals.{then-not-taken-via-then-not-taken, then-not-taken-via-else-not-taken+then-w-due}

pub returns-then-not-taken : goal.returns-then-not-taken
returns-then-not-taken c =
    elim c.then-not-taken.branch [
      | then-not-taken-via-then-not-taken w ↦ stuck_is w.if-not-taken.true (no_free_run _ _ _ c.if-left-ne0.true)
      | then-not-taken-via-else-not-taken+then-w-due w ↦ stuck_is w.if-not-taken.false (no_inner _ _ _ c.if-left-ne0.true w.if-w-due.true)
    ]

pub returns-then-left-ne0 : goal.returns-then-left-ne0
returns-then-left-ne0 c =
    paged_is c.if-not-taken.false
    (is_inner_lem _ _ _ _ _ _ _ c.requires.ready c.if-left-ne0.true c.if-w-due.false c.any_slot.ensures c.next_word.ensures)

pub returns-then-contains : goal.returns-then-contains
returns-then-contains c =
    paged_is c.if-not-taken-2.false
    (is_class _ _ _ _ _ _ _ c.if-left-ne0.false (grind (arith, nat_tests)) (grind (arith, nat_tests)) (c.requires.behind.at _ (grind (arith, nat_tests))) c.stray_slot.ensures)

pub returns-then-not-taken-3 : goal.returns-then-not-taken-3
returns-then-not-taken-3 c =
    paged_is c.if-not-taken-3.true (is_free _ _ _ _ _ _ c.if-left-ne0.false c.if-w-ne0.false c.any_slot-then-not-taken-3.ensures)

pub returns-then-contains-2 : goal.returns-then-contains-2
returns-then-contains-2 c =
    paged_is c.if-not-taken-3.false (is_large _ _ _ _ _ _ c.if-left-ne0.false (grind (arith, nat_tests)) (grind (arith, nat_tests)) c.any_slot-then-contains-2.ensures)

pub returns : goal.returns
returns c =
    stuck_is c.if-not-taken-3.false (no_run _ _ _ c.if-left-ne0.false (λ a b. grind (arith, nat_tests)) (λ a b. grind (arith, nat_tests)))
