mod Makes
