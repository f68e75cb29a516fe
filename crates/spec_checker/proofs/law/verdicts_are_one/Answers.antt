use Rattle.spec_checker.proofs.Once.{accepted_once, accepted_or_refused, refused_once}
use Rattle.spec_checker.proofs.law.verdicts_are_one.Goals as goal

pub returns-clause-accepted : goal.returns-clause-accepted
returns-clause-accepted c = accepted_once c.texts_are_answered.ensures.spelled c.texts_are_answered.ensures.grammar c.texts_are_answered.ensures.limit c.joined_entries_are_told.ensures.files

pub returns-clause-both : goal.returns-clause-both
returns-clause-both c = accepted_or_refused c.texts_are_answered.ensures.spelled c.texts_are_answered.ensures.grammar c.texts_are_answered.ensures.limit c.joined_entries_are_told.ensures.files

pub returns-clause-refused : goal.returns-clause-refused
returns-clause-refused c = refused_once c.texts_are_answered.ensures.spelled c.texts_are_answered.ensures.grammar c.texts_are_answered.ensures.limit c.joined_entries_are_told.ensures.files
