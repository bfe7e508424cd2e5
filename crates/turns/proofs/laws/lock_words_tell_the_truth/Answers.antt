use Rattle.turns.proofs.laws.lock_words_tell_the_truth.Goals as goal

pub returns-clause-made : goal.returns-clause-made
returns-clause-made g c = λ setting w k lock law is few valid. ((law.shared lock is).requested k few).made valid

pub returns-clause-requests : goal.returns-clause-requests
returns-clause-requests g c = λ setting w k lock shows law is few.
    let told = (law.shared lock is).requested k few in
    (told.made, told.shown shows)
