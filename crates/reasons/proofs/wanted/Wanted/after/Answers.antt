use Rattle.reasons.proofs.wanted.Wanted.after.Goals as goal

pub returns-in-Format-clause-only : goal.returns-in-Format-clause-only
returns-in-Format-clause-only c = rw c.in-Format.is c.format.ensures.only

pub returns-in-EventLetter-clause-only : goal.returns-in-EventLetter-clause-only
returns-in-EventLetter-clause-only c = rw c.in-EventLetter.is c.event_letter.ensures.only

pub returns-in-LineLetter-clause-only : goal.returns-in-LineLetter-clause-only
returns-in-LineLetter-clause-only c = rw c.in-LineLetter.is c.line_letter.ensures.only

pub returns-in-Function-clause-only : goal.returns-in-Function-clause-only
returns-in-Function-clause-only c = rw c.in-Function.is c.function.ensures.only

pub returns-in-Form-clause-only : goal.returns-in-Form-clause-only
returns-in-Form-clause-only c = rw c.in-Form.is c.form.ensures.only
