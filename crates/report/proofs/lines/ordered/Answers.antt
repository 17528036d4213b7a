-- Each order has its own words. Assumes nothing.
use Rattle.report.specs.Text.{item, order_text}
use Rattle.report.proofs.Writing.{wrote_then}
use Rattle.report.proofs.lines.ordered.Goals as goal

pub returns-in-Publish : goal.returns-in-Publish
unfolding item order_text
returns-in-Publish c = rw c.in-Publish.is (wrote_then c.item.ensures c.item-in-Publish.ensures)

pub returns-in-Halt : goal.returns-in-Halt
unfolding item order_text
returns-in-Halt c = rw c.in-Halt.is c.item-in-Halt.ensures

pub returns-in-Resume : goal.returns-in-Resume
unfolding item order_text
returns-in-Resume c = rw c.in-Resume.is c.item-in-Resume.ensures

pub returns-in-Withdraw : goal.returns-in-Withdraw
unfolding item order_text
returns-in-Withdraw c = rw c.in-Withdraw.is c.item-in-Withdraw.ensures
