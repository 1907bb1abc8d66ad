-- each call of itself has fewer digits to write
use Rattle.text.proofs.lines.+put_digits.Given as goal

abbrev pub decreases-put_digits : goal.decreases-put_digits
decreases-put_digits l = l.k
