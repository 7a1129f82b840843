use Rattle.std.proofs.Common.{Some, ap, sym}
use Rattle.tree_top.specs.promise.Diagnostics.{status_line}
use Rattle.tree_top.proofs.diagnostics.line_of.Goals as goal

pub returns-in-Words : goal.returns-in-Words
returns-in-Words c = ap (λ f. status_line (Some f)) (sym c.in-Words.is)

pub returns-in-InputTooLong : goal.returns-in-InputTooLong
returns-in-InputTooLong c = ap (λ f. status_line (Some f)) (sym c.in-InputTooLong.is)

pub returns-in-ReadFault : goal.returns-in-ReadFault
returns-in-ReadFault c = ap (λ f. status_line (Some f)) (sym c.in-ReadFault.is)

pub returns-in-WriteFault : goal.returns-in-WriteFault
returns-in-WriteFault c = ap (λ f. status_line (Some f)) (sym c.in-WriteFault.is)

pub returns-in-Text : goal.returns-in-Text
returns-in-Text c = ap (λ f. status_line (Some f)) (sym c.in-Text.is)

pub returns-in-Schema : goal.returns-in-Schema
returns-in-Schema c = ap (λ f. status_line (Some f)) (sym c.in-Schema.is)

pub returns-in-Layout : goal.returns-in-Layout
returns-in-Layout c = ap (λ f. status_line (Some f)) (sym c.in-Layout.is)

pub returns-in-NoMemory : goal.returns-in-NoMemory
returns-in-NoMemory c = ap (λ f. status_line (Some f)) (sym c.in-NoMemory.is)
